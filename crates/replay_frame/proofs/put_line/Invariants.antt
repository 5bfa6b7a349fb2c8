-- `replay_frame::put_line` meets its contract. The loop's invariant: the digits of the first w wires stand before what was there.

use Prim.Native.Nat.{◌+◌}
use mathlib.Core.Path.{◌≡◌}
use lib.ListN.{length}
use Rattle.netlist.specs.WireTable.{entry}
use Rattle.call_lists.specs.Delivered.{delivered}
use Rattle.replay_frame.specs.Replay.{digit_of}
use Rattle.replay_frame.proofs.put_line.Given as goal

abbrev pub invariant-loop-w : goal.invariant-loop-w
invariant-loop-w l =
    (length l.out ≡ length l.initial.out) × (l.out ≡ delivered l.w (λ x. digit_of (entry l.values (1 + x))) l.initial.out)
