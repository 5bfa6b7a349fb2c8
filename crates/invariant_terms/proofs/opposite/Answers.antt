-- `invariant_terms::opposite` meets its contract: the lowest bit turns.

use Prim.Native.Nat.{◌%◌}
use borrow.Author.Tests.{eq-eqb, ne_eqb}
use Rattle.model.specs.Bits.{odd}
use Rattle.invariant_terms.specs.Terms.{opposite}
use Rattle.invariant_terms.proofs.opposite.Goals as goal

pub returns-then-x-eq1 : goal.returns-then-x-eq1
unfolding opposite odd
returns-then-x-eq1 c = rw (eq-eqb (c.args.x % 2) 1 c.if-x-eq1.true)

pub returns : goal.returns
unfolding opposite odd
returns c = rw (ne_eqb (c.args.x % 2) 1 c.if-x-eq1.false)
