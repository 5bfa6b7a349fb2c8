-- `netlist_tests::first_code_fault` meets its contract. The loop's invariant: the lines before the place have no code outside its limit.

use Prim.Native.Nat.{◌-◌}
use Rattle.refusals.specs.declared.Refusal.TheVariants.{CodeOutside}
use Rattle.netlist.specs.NetOf.{net_of}
use Rattle.netlist.specs.Faults.{code_fault}
use Rattle.netlist_tests.proofs.Record.{PassedTo}
use Rattle.netlist_tests.proofs.first_code_fault.Given as goal

abbrev pub invariant-loop-place : goal.invariant-loop-place
invariant-loop-place l = PassedTo (net_of l.net l.latches l.gates) CodeOutside code_fault (l.place - 1)
