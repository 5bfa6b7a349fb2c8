-- `clause_writer::put_unit` meets its contract: left out where its literal is true, else the literal and the end.

use mathlib.Core.Path.{sym, ◌∙◌}
use mathlib.Core.List.{[], ◌∷◌}
use native.Mathlib.Omega.{arith}
use Rattle.literals.specs.Lit.{literal_of}
use Rattle.clause_writer.proofs.Wrote.{clause-ended, clause-left-out, end-most, has_true-one, kept-one}
use borrow.Author.Rules.{rules}
use Rattle.clause_writer.proofs.put_unit.Goals as goal

pub returns-then-is_true : goal.returns-then-is_true
returns-then-is_true c = (clause-left-out _ _ (has_true-one _ ∙ sym c.is_true.ensures ∙ c.if-is_true.true), search rules)

pub returns : goal.returns
returns c =
    let a = c.args.a in
    let first = c.put_literal-i.ensures in
    let end = c.put_end.ensures.0 in (
      clause-ended (literal_of a ∷ [])
          (has_true-one (literal_of a) ∙ sym c.is_true.ensures ∙ c.if-is_true.false)
          (rw (kept-one (literal_of a)) first.0) end,
      end-most end first.1 (omega arith),
    )
