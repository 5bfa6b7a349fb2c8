-- `clause_writer::put_binary` meets its contract: left out where a literal is true, else its literals and the end.

use mathlib.Core.List.{[], ◌∷◌}
use native.Mathlib.Omega.{arith}
use Rattle.literals.specs.Lit.{literal_of}
use Rattle.clause_writer.proofs.Wrote.{wrote_then, clause-ended, clause-left-out, end-most, has_true-two, kept-two}
use borrow.Author.Rules.{rules}
use Rattle.clause_writer.proofs.put_binary.Goals as goal

pub returns-then-is_true : goal.returns-then-is_true
returns-then-is_true c =
    (clause-left-out _ _ (rw (has_true-two _ _) (rw (c.is_true.ensures, c.is_true-2.ensures) at c.if-is_true.true)), search rules)

pub returns : goal.returns
returns c =
    let a = literal_of c.args.a in
    let b = literal_of c.args.b in
    let first = c.put_literal-i.ensures in
    let second = c.put_literal.ensures in
    let end = c.put_end.ensures.0 in (
      clause-ended (a ∷ b ∷ [])
          (rw (has_true-two a b) (rw (c.is_true.ensures, c.is_true-2.ensures) at c.if-is_true.false))
          (rw (kept-two a b) (wrote_then first.0 second.0)) end,
      end-most {most = 2} end (omega (arith, first.1, second.1)) (omega arith),
    )
