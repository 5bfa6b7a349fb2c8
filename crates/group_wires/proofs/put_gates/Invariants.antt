-- `group_wires::put_gates` meets its contract. The loop has written the gates passed.

use Rattle.clause_writer.proofs.Turns.{Turns}
use Rattle.group_wires.proofs.WiresOf.{gate_at}
use Rattle.group_wires.proofs.put_gates.Given as goal

abbrev pub invariant-loop-g : goal.invariant-loop-g
invariant-loop-g l = Turns l.g-end 10 (gate_at l.b l.first.0 l.gates) l.initial.out l.out l.g l.at
