-- `netlist_tests::test_loops` meets its contract. Where the pass over the lists finds nothing, no line makes a memory loop. The loop's
-- invariant: the lines before the place make none. It starts at the address codes, and no line before them does.

use Prim.Native.Nat.{◌-◌}
use mathlib.Core.List.{[]}
use Rattle.refusals.specs.declared.Refusal.TheVariants.{MemoryLoop}
use Rattle.netlist.specs.NetOf.{net_of}
use Rattle.netlist.specs.Faults.{loop_fault}
use Rattle.netlist_tests.proofs.Record.{PassedTo}
use Rattle.netlist_tests.proofs.test_loops.Given as goal

abbrev pub invariant-loop-place : goal.invariant-loop-place
invariant-loop-place l = PassedTo (net_of l.net [] l.gates) MemoryLoop loop_fault (l.place - 1)
