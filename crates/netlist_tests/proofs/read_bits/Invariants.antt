-- `netlist_tests::read_bits` meets its contract. The loop's invariant: the table has the wires from the first read bit up to w.

use Rattle.netlist.specs.WireTable.{HasAll}
use Rattle.netlist_tests.proofs.Dependence.{between}
use Rattle.netlist_tests.proofs.read_bits.Given as goal

abbrev pub invariant-loop-w : goal.invariant-loop-w
invariant-loop-w l = HasAll (between l.initial.w l.w) l.flags
