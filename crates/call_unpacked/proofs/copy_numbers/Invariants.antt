-- `call_unpacked::copy_numbers` meets its contract. The loop's invariant: the first i numbers stand before what was there.

use mathlib.Core.Path.{◌≡◌}
use mathlib.Core.List.{◌++◌}
use lib.ListN.{length, take, drop}
use Rattle.call_unpacked.proofs.copy_numbers.Given as goal

abbrev pub invariant-loop-i : goal.invariant-loop-i
invariant-loop-i l = (length l.out ≡ length l.initial.out) × (l.out ≡ take l.i l.numbers ++ drop l.i l.initial.out)
