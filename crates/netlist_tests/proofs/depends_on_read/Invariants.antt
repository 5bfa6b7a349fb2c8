-- `netlist_tests::depends_on_read` meets its contract. The loop's invariant: the table has the sweep over the first g gates.

use mathlib.Core.List.{[]}
use Rattle.model.specs.Circuit.{sweep, is_read, either_wire}
use Rattle.netlist.specs.NetOf.{net_of}
use Rattle.netlist.specs.WireTable.{HasAll}
use Rattle.netlist_tests.proofs.depends_on_read.Given as goal

abbrev pub invariant-loop-g : goal.invariant-loop-g
invariant-loop-g l = HasAll (sweep either_wire (net_of l.fn.net [] l.gates) (is_read (net_of l.fn.net [] l.gates)) l.g) l.flags
