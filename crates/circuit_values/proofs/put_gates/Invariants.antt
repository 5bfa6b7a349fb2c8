-- `circuit_values::put_gates` meets its contract. The loop's invariant: the table has every wire before gate g.

use mathlib.Core.List.{[]}
use Rattle.netlist.specs.NetOf.{net_of}
use Rattle.circuit_values.proofs.WireTable.{Worked}
use Rattle.circuit_values.proofs.put_gates.Given as goal

abbrev pub invariant-loop-g : goal.invariant-loop-g
invariant-loop-g l = Worked (net_of l.fn.net [] l.gates) l.initial.values l.values l.g
