-- `sheet_one_port::test_second` meets its contract. The loop's invariant: the lines before the place do not use the second port.

use Prim.Native.Nat.{◌-◌}
use Rattle.refusals.specs.declared.Refusal.TheVariants.{SecondPort}
use Rattle.netlist.specs.NetOf.{net_of}
use Rattle.netlist_tests.proofs.Record.{PassedTo}
use Rattle.sheet_one_port.specs.SecondPort.{second_use}
use Rattle.sheet_one_port.proofs.test_second.Given as goal

abbrev pub invariant-loop-place : goal.invariant-loop-place
invariant-loop-place l = PassedTo (net_of l.net l.latches l.gates) SecondPort second_use (l.place - 1)
