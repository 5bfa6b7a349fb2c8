-- `decimal::digit_count` meets its contract. The loop's invariant: the power is 10^count, and x has at least that many digits.

use native.Mathlib.Nat.{le_antisymm, pow-suc}
use native.Mathlib.Numerals.{add-one}
use native.Mathlib.Omega.{arith}
use Rattle.decimal.proofs.Digits.{length-digits-some, length-digits-ten, length-digits-most, length-digits-least}
use Rattle.decimal.proofs.digit_count.Goals as goal

pub loop-power-init : goal.loop-power-init
loop-power-init c = omega (arith, length-digits-some c.args.x)

pub overflow_add-count : goal.overflow_add-count
overflow_add-count c = omega (arith, length-digits-ten c.args.x c.ranges.x.fits)

pub loop-power-smaller : goal.loop-power-smaller
loop-power-smaller c = omega (arith, length-digits-ten c.args.x c.ranges.x.fits)

pub loop-power-preserved : goal.loop-power-preserved
loop-power-preserved c =
    (rw (add-one, pow-suc) (omega arith), omega arith, omega (arith, length-digits-least c.loop-power.count c.args.x (omega arith)))

pub returns : goal.returns
returns c =
    le_antisymm c.loop-power.invariant.2 (length-digits-most c.loop-power.count c.args.x c.loop-power.invariant.1 (omega arith))
