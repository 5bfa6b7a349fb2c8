-- `group_property::put_property` meets its contract.

use Prim.Native.Nat.{◌+◌}
use mathlib.Core.Path.{sym, ◌∙◌}
use native.Mathlib.Omega.{arith}
use borrow.Author.Rules.{rules}
use Rattle.model.specs.Groups.{clauses_of}
use Rattle.model.specs.Numbers.{numbers_of}
use Rattle.clause_writer.proofs.Wrote.{clause-ended, clause-left-out, end-most}
use Rattle.group_property.proofs.Violations.{violations-true}
use Rattle.group_property.proofs.put_property.Goals as goal

pub returns-then-is_always_violated : goal.returns-then-is_always_violated
unfolding numbers_of clauses_of
returns-then-is_always_violated c =
    (clause-left-out _ _ (violations-true c.args.net c.args.k (sym c.is_always_violated.ensures ∙ c.if-is_always_violated.true)), search rules)

pub returns : goal.returns
unfolding numbers_of clauses_of
returns c =
    let tested = sym c.is_always_violated.ensures ∙ c.if-is_always_violated.false in
    let all = c.put_violations-a.ensures in
    let end = c.put_end.ensures.0 in (
      clause-ended _ (violations-true c.args.net c.args.k tested) all.0 end,
      omega (arith, end-most {most = c.args.k + 1} end all.1 (omega arith)),
    )
