-- `decimal::fill_digits` meets its contract. The loop's invariant: the digits of `rest`, which are still to be written before `at`, with
-- everything else as it is, are the digits of x at the end of what was there.

use Prim.Native.Nat.{◌+◌, ◌≤◌}
use mathlib.Core.Path.{◌≡◌}
use lib.ListN.{length}
use Rattle.decimal.specs.Digits.{digits}
use Rattle.decimal.specs.WroteAtEnd.{at_end}
use Rattle.decimal.proofs.WroteAtEnd.{ending_at}
use Rattle.decimal.proofs.fill_digits.Given as goal

abbrev pub invariant-loop-rest : goal.invariant-loop-rest
invariant-loop-rest l =
    (l.at ≤ length l.out) × (length l.out ≡ length l.initial.out) × (length (digits l.rest) ≤ l.at) × (length (digits l.rest) + length l.out ≡ length (digits l.x) + l.at)
    × (ending_at l.at (digits l.rest) l.out ≡ at_end (digits l.x) l.initial.out)

abbrev pub decreases-loop-rest : goal.decreases-loop-rest
decreases-loop-rest l = l.rest
