-- `refutation_hints::opposite` meets its contract.

use native.Mathlib.Omega.{arith}
use Rattle.refutation_hints.proofs.Marks.{opposite-even, opposite-odd}
use Rattle.refutation_hints.proofs.opposite.Goals as goal

pub overflow_add-result : goal.overflow_add-result
overflow_add-result c = record { fits = omega (arith, c.ranges.slot.fits) }

pub returns-then-slot-eq0 : goal.returns-then-slot-eq0
returns-then-slot-eq0 c =
    (λ z e. opposite-even z c.args.slot c.requires c.if-slot-eq0.true e, omega arith)

pub returns : goal.returns
returns c = (λ z e. opposite-odd z c.args.slot c.if-slot-eq0.false e, omega arith)
