-- `circuit_step::put_latches` meets its contract. The loop's invariant: the first l latches are stepped.

use Prim.Native.Nat.{ℕ, ◌<◌}
use mathlib.Core.Path.{◌≡◌}
use lib.ListN.{length}
use Rattle.model.specs.Circuit.{code_value}
use Rattle.netlist.specs.NetOf.{first_at}
use Rattle.netlist.specs.WireTable.{entry}
use Rattle.circuit_step.proofs.put_latches.Given as goal

abbrev pub invariant-loop-l : goal.invariant-loop-l
invariant-loop-l lo =
    (length lo.state ≡ 600) × ((x : ℕ) → x < lo.l → entry lo.state x ≡ code_value (entry lo.values) (first_at lo.latches x))
