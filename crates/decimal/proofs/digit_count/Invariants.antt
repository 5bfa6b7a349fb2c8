-- `decimal::digit_count` meets its contract. The loop's invariant: the power is 10^count, and x has at least that many digits.

use Prim.Native.Nat.{◌≤◌, ◌<◌, ◌-◌, ◌^◌}
use mathlib.Core.Path.{◌≡◌}
use lib.ListN.{length}
use Rattle.decimal.specs.Digits.{digits}
use Rattle.decimal.proofs.digit_count.Given as goal

abbrev pub invariant-loop-power : goal.invariant-loop-power
invariant-loop-power l = (l.power ≡ 10 ^ l.count) × (0 < l.count) × (l.count ≤ length (digits l.x))

abbrev pub decreases-loop-power : goal.decreases-loop-power
decreases-loop-power l = 11 - l.count
