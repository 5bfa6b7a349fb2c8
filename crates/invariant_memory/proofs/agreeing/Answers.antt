-- `invariant_memory::agreeing` meets its contract.

use Prim.Native.Nat.{◌/◌, ◌%◌, ◌^◌}
use mathlib.Core.Path.{◌∙◌}
use borrow.Author.Tests.{eq-eqb, ne_eqb}
use Rattle.model.specs.Bits.{odd, bit}
use Rattle.invariant_memory.proofs.agreeing.Goals as goal

pub returns-then-y-t-eq1 : goal.returns-then-y-t-eq1
unfolding bit odd
returns-then-y-t-eq1 c =
    rw (eq-eqb (c.args.y / 2 ^ c.args.t % 2) 1 c.if-y-t-eq1.true)

pub returns : goal.returns
unfolding bit odd
returns c =
    c.opposite.ensures ∙ rw (ne_eqb (c.args.y / 2 ^ c.args.t % 2) 1 c.if-y-t-eq1.false)
