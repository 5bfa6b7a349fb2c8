-- `sheet_one_port::second_use` meets its contract: each arm knows its line, whose number is below its size.

use mathlib.Core.Path.{subst}
use mathlib.Core.Logic.{inl, inr}
use native.Mathlib.Omega.{arith}
use Rattle.model.specs.OnePort.{names_second}
use Rattle.netlist.specs.NetOf.{code_of, net_of, alone}
use Rattle.netlist.specs.Places.{HasLine}
use Rattle.sheet_one_port.specs.SecondPort.{second_use}
use Rattle.sheet_one_port.proofs.second_use.Goals as goal

pub bounds-latches-l : goal.bounds-latches-l
bounds-latches-l c = omega (arith, subst (HasLine (alone c.args.net)) c.in-Latch.is c.requires.1, c.requires.0.latches-fit)

pub bounds-gates-at : goal.bounds-gates-at
bounds-gates-at c = omega (arith, subst (HasLine (alone c.args.net)) c.in-Gate.is c.requires.1, c.requires.0.gates-fit)

pub bounds-gates-at-in-Gate : goal.bounds-gates-at-in-Gate
bounds-gates-at-in-Gate c = omega (arith, subst (HasLine (alone c.args.net)) c.in-Gate.is c.requires.1, c.requires.0.gates-fit)

pub bounds-net-t : goal.bounds-net-t
bounds-net-t c = omega (arith, subst (HasLine (alone c.args.net)) c.in-Address.is c.requires.1, c.requires.0.m-most)

pub bounds-net-t-in-WriteData : goal.bounds-net-t-in-WriteData
bounds-net-t-in-WriteData c = omega (arith, subst (HasLine (alone c.args.net)) c.in-WriteData.is c.requires.1, c.requires.0.n-most)

pub bounds-net-t-in-SecondAddress : goal.bounds-net-t-in-SecondAddress
bounds-net-t-in-SecondAddress c = omega (arith, (subst (HasLine (alone c.args.net)) c.in-SecondAddress.is c.requires.1).1, c.requires.0.m-most)

pub returns-in-Sizes : goal.returns-in-Sizes
unfolding second_use
returns-in-Sizes c = elim c.in-Sizes.is [ inl e ↦ rw e | inr e ↦ rw e ]

pub returns-in-Latch : goal.returns-in-Latch
unfolding net_of second_use names_second
returns-in-Latch c = rw (c.in-Latch.is, c.names_second.ensures)

pub returns-in-Gate : goal.returns-in-Gate
unfolding net_of second_use names_second
returns-in-Gate c = rw (c.in-Gate.is, c.names_second-in-Gate.ensures, c.names_second-in-Gate-2.ensures)

pub returns-in-Address : goal.returns-in-Address
unfolding net_of second_use names_second code_of
returns-in-Address c = rw (c.in-Address.is, c.names_second-in-Address.ensures)

pub returns-in-WriteData : goal.returns-in-WriteData
unfolding net_of second_use names_second code_of
returns-in-WriteData c = rw (c.in-WriteData.is, c.names_second-in-WriteData.ensures)

pub returns-in-SecondAddress : goal.returns-in-SecondAddress
unfolding net_of second_use names_second code_of
returns-in-SecondAddress c = rw (c.in-SecondAddress.is, c.names_second-in-SecondAddress.ensures)

pub returns-in-SecondEnable : goal.returns-in-SecondEnable
unfolding net_of second_use
returns-in-SecondEnable c = rw (c.in-SecondEnable.is, c.is_false.ensures)

pub returns-in-Control : goal.returns-in-Control
unfolding net_of second_use names_second
returns-in-Control c = rw (c.in-Control.is, c.names_second-in-Control.ensures, c.names_second-in-Control-2.ensures, c.names_second-in-Control-3.ensures)
