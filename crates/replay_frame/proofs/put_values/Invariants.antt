-- `replay_frame::put_values` meets its contract. The loop's invariant: the table has the first x values.

use Prim.Native.Nat.{ℕ, ◌+◌, ◌<◌}
use mathlib.Core.Path.{◌≡◌}
use lib.ListN.{length}
use Rattle.netlist.specs.WireTable.{entry}
use Rattle.answer_signs.specs.Signs.{true_in}
use Rattle.replay_frame.proofs.put_values.Given as goal

abbrev pub invariant-loop-x : goal.invariant-loop-x
invariant-loop-x l =
    (length l.table ≡ 600) × ((y : ℕ) → y < l.x → entry l.table y ≡ true_in l.signs (l.first + y))
