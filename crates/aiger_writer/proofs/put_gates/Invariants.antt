-- `aiger_writer::put_gates` meets its contract. The loop has written the gates before g.

use Prim.Native.Nat.{◌*◌, ◌≤◌}
use Rattle.model.specs.Gather.{gather}
use Rattle.model.specs.Wrote.{Wrote}
use Rattle.aiger_writer.specs.Parts.{gate_text_at}
use Rattle.aiger_writer.proofs.put_gates.Given as goal

abbrev pub invariant-loop-g : goal.invariant-loop-g
invariant-loop-g l =
    (l.at ≤ l.g * 4) × Wrote (gather l.g (gate_text_at l.order l.gates)) l.initial.out l.out l.at
