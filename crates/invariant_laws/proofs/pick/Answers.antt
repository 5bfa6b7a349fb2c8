-- `invariant_laws::pick` meets its contract.

use borrow.Author.Tests.{eq-eqb, ne_eqb}
use Rattle.invariant_laws.specs.LawForms.{pick}
use Rattle.invariant_laws.proofs.pick.Goals as goal

pub returns-then-k-eq0 : goal.returns-then-k-eq0
unfolding pick
returns-then-k-eq0 c =
    rw (eq-eqb c.args.k 0 c.if-k-eq0.true)

pub returns-then-k-eq1 : goal.returns-then-k-eq1
unfolding pick
returns-then-k-eq1 c =
    rw (ne_eqb c.args.k 0 c.if-k-eq0.false, eq-eqb c.args.k 1 c.if-k-eq1.true)

pub returns-then-k-eq2 : goal.returns-then-k-eq2
unfolding pick
returns-then-k-eq2 c =
    rw (
      ne_eqb c.args.k 0 c.if-k-eq0.false,
      ne_eqb c.args.k 1 c.if-k-eq1.false,
      eq-eqb c.args.k 2 c.if-k-eq2.true,
    )

pub returns : goal.returns
unfolding pick
returns c =
    rw (
      ne_eqb c.args.k 0 c.if-k-eq0.false,
      ne_eqb c.args.k 1 c.if-k-eq1.false,
      ne_eqb c.args.k 2 c.if-k-eq2.false,
    )
