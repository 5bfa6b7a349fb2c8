-- `aiger_codes::wire_of` meets its contract. The loop's invariant: no wire before w has the variable.

use Rattle.aiger_codes.proofs.WireTable.{NotBefore}
use Rattle.aiger_codes.proofs.wire_of.Given as goal

abbrev pub invariant-loop-w : goal.invariant-loop-w
invariant-loop-w l = NotBefore l.table l.variable l.w
