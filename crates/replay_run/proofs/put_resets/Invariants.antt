-- `replay_run::put_resets` meets its contract. The loop's invariant: the first l latches are at their reset.

use Prim.Native.Nat.{ℕ, ◌<◌}
use mathlib.Core.Path.{◌≡◌}
use lib.Dec.{eqb}
use lib.ListN.{length}
use Rattle.netlist.specs.NetOf.{second_at}
use Rattle.netlist.specs.WireTable.{entry}
use Rattle.replay_run.proofs.put_resets.Given as goal

abbrev pub invariant-loop-l : goal.invariant-loop-l
invariant-loop-l lo =
    (length lo.state ≡ 600) × ((x : ℕ) → x < lo.l → entry lo.state x ≡ eqb (second_at lo.latches x) 1)
