-- `sheet_writer::printed_line` meets its contract: each arm knows its line, whose number is below its size.

use native.Mathlib.Omega.{arith}
use mathlib.Core.Path.{subst}
use Rattle.netlist.specs.NetOf.{code_of, net_of, alone}
use Rattle.netlist.specs.Places.{HasLine}
use Rattle.sheet_writer.specs.Printed.{printed_line}
use Rattle.sheet_writer.proofs.printed_line.Goals as goal

pub bounds-latches-at : goal.bounds-latches-at
bounds-latches-at c = omega (arith, subst (HasLine (alone c.args.net)) c.in-Latch.is c.requires.1, c.requires.0.latches-fit)

pub bounds-latches-at-in-Latch : goal.bounds-latches-at-in-Latch
bounds-latches-at-in-Latch c = omega (arith, subst (HasLine (alone c.args.net)) c.in-Latch.is c.requires.1, c.requires.0.latches-fit)

pub bounds-gates-at : goal.bounds-gates-at
bounds-gates-at c = omega (arith, subst (HasLine (alone c.args.net)) c.in-Gate.is c.requires.1, c.requires.0.gates-fit)

pub bounds-gates-at-in-Gate : goal.bounds-gates-at-in-Gate
bounds-gates-at-in-Gate c = omega (arith, subst (HasLine (alone c.args.net)) c.in-Gate.is c.requires.1, c.requires.0.gates-fit)

pub bounds-net-at : goal.bounds-net-at
bounds-net-at c = omega (arith, subst (HasLine (alone c.args.net)) c.in-Address.is c.requires.1, c.requires.0.m-most)

pub bounds-net-at-in-WriteData : goal.bounds-net-at-in-WriteData
bounds-net-at-in-WriteData c = omega (arith, subst (HasLine (alone c.args.net)) c.in-WriteData.is c.requires.1, c.requires.0.n-most)

pub bounds-net-at-in-SecondAddress : goal.bounds-net-at-in-SecondAddress
bounds-net-at-in-SecondAddress c = omega (arith, (subst (HasLine (alone c.args.net)) c.in-SecondAddress.is c.requires.1).1, c.requires.0.m-most)

pub returns-in-Sizes : goal.returns-in-Sizes
unfolding net_of printed_line
returns-in-Sizes c = rw c.in-Sizes.is

pub returns-in-Memory : goal.returns-in-Memory
unfolding net_of printed_line
returns-in-Memory c = rw (c.in-Memory.is, c.memory_kind.ensures)

pub returns-in-Latch : goal.returns-in-Latch
unfolding net_of printed_line
returns-in-Latch c = rw c.in-Latch.is

pub returns-in-Gate : goal.returns-in-Gate
unfolding net_of printed_line
returns-in-Gate c = rw c.in-Gate.is

pub returns-in-Address : goal.returns-in-Address
unfolding net_of printed_line code_of
returns-in-Address c = rw c.in-Address.is

pub returns-in-WriteData : goal.returns-in-WriteData
unfolding net_of printed_line code_of
returns-in-WriteData c = rw c.in-WriteData.is

pub returns-in-SecondAddress : goal.returns-in-SecondAddress
unfolding net_of printed_line code_of
returns-in-SecondAddress c = rw c.in-SecondAddress.is

pub returns-in-SecondEnable : goal.returns-in-SecondEnable
unfolding net_of printed_line
returns-in-SecondEnable c = rw c.in-SecondEnable.is

pub returns-in-Control : goal.returns-in-Control
unfolding net_of printed_line
returns-in-Control c = rw c.in-Control.is
