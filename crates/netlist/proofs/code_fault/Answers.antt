-- `netlist::code_fault` meets its contract: each arm knows its line, whose number is below its size.

use mathlib.Core.Path.{◌≡◌, subst}
use native.Mathlib.Omega.{arith}
use Rattle.model.specs.Netlist.{gate_wire}
use Rattle.netlist.specs.NetOf.{code_of, net_of, alone}
use Rattle.netlist.specs.Places.{HasLine}
use Rattle.netlist.specs.Faults.{code_fault}
use Rattle.netlist.proofs.code_fault.Goals as goal

pub last_wire-last-requires : goal.last_wire-last-requires
last_wire-last-requires c = c.requires.0

pub enum_told-1 : goal.enum_told-1
enum_told-1 c = c.in-Sizes.in-Sizes-own.keys1

pub enum_told-in-Memory : goal.enum_told-in-Memory
enum_told-in-Memory c = c.in-Memory.in-Memory-own.keys2

pub enum_known-line : goal.enum_known-line
enum_known-line c = c.in-Latch.in-Latch-own.keys3

pub bounds-latches-at : goal.bounds-latches-at
bounds-latches-at c = omega (arith, subst (HasLine (alone c.args.net)) c.in-Latch.is c.requires.1, c.requires.0.latches-fit)

pub bounds-latches-at-in-Latch : goal.bounds-latches-at-in-Latch
bounds-latches-at-in-Latch c = omega (arith, subst (HasLine (alone c.args.net)) c.in-Latch.is c.requires.1, c.requires.0.latches-fit)

pub latch_fault-requires : goal.latch_fault-requires
latch_fault-requires c = tt

pub enum_known-line-in-Gate-1 : goal.enum_known-line-in-Gate-1
enum_known-line-in-Gate-1 c = c.in-Gate.in-Gate-own.keys4

pub first_gate_wire-requires : goal.first_gate_wire-requires
first_gate_wire-requires c = c.requires.0

pub offset-requires : goal.offset-requires
unfolding net_of
offset-requires c = omega (arith, c.first_gate_wire.ensures, subst (HasLine (alone c.args.net)) c.in-Gate.is c.requires.1, c.requires.0)

pub bounds-gates-at : goal.bounds-gates-at
bounds-gates-at c = omega (arith, subst (HasLine (alone c.args.net)) c.in-Gate.is c.requires.1, c.requires.0.gates-fit)

pub bounds-gates-at-in-Gate : goal.bounds-gates-at-in-Gate
bounds-gates-at-in-Gate c = omega (arith, subst (HasLine (alone c.args.net)) c.in-Gate.is c.requires.1, c.requires.0.gates-fit)

pub gate_fault-requires : goal.gate_fault-requires
gate_fault-requires c = tt

pub enum_known-line-in-Address-1 : goal.enum_known-line-in-Address-1
enum_known-line-in-Address-1 c = c.in-Address.in-Address-own.keys5

pub bounds-net-at : goal.bounds-net-at
bounds-net-at c = omega (arith, subst (HasLine (alone c.args.net)) c.in-Address.is c.requires.1, c.requires.0.m-most)

pub is_above-requires : goal.is_above-requires
is_above-requires c = tt

pub enum_known-line-in-WriteData-1 : goal.enum_known-line-in-WriteData-1
enum_known-line-in-WriteData-1 c = c.in-WriteData.in-WriteData-own.keys6

pub bounds-net-at-in-WriteData : goal.bounds-net-at-in-WriteData
bounds-net-at-in-WriteData c = omega (arith, subst (HasLine (alone c.args.net)) c.in-WriteData.is c.requires.1, c.requires.0.n-most)

pub is_above-requires-in-WriteData : goal.is_above-requires-in-WriteData
is_above-requires-in-WriteData c = tt

pub enum_known-line-in-SecondAddress-1 : goal.enum_known-line-in-SecondAddress-1
enum_known-line-in-SecondAddress-1 c = c.in-SecondAddress.in-SecondAddress-own.keys7

pub bounds-net-at-in-SecondAddress : goal.bounds-net-at-in-SecondAddress
bounds-net-at-in-SecondAddress c = omega (arith, (subst (HasLine (alone c.args.net)) c.in-SecondAddress.is c.requires.1).1, c.requires.0.m-most)

pub is_above-requires-in-SecondAddress : goal.is_above-requires-in-SecondAddress
is_above-requires-in-SecondAddress c = tt

pub enum_told-in-SecondEnable : goal.enum_told-in-SecondEnable
enum_told-in-SecondEnable c = c.in-SecondEnable.in-SecondEnable-own.keys8

pub is_above-requires-in-SecondEnable : goal.is_above-requires-in-SecondEnable
is_above-requires-in-SecondEnable c = tt

pub enum_told-in-Control : goal.enum_told-in-Control
enum_told-in-Control c = c.in-Control.in-Control-own.keys9

pub is_above-requires-in-Control : goal.is_above-requires-in-Control
is_above-requires-in-Control c = tt

pub is_above-requires-in-Control-2 : goal.is_above-requires-in-Control-2
is_above-requires-in-Control-2 c = tt

pub is_above-requires-in-Control-3 : goal.is_above-requires-in-Control-3
is_above-requires-in-Control-3 c = tt

pub returns-in-Sizes : goal.returns-in-Sizes
unfolding code_fault
returns-in-Sizes c = rw c.in-Sizes.is

pub returns-in-Memory : goal.returns-in-Memory
unfolding code_fault
returns-in-Memory c = rw c.in-Memory.is

pub returns-in-Latch : goal.returns-in-Latch
unfolding net_of code_fault
returns-in-Latch c = rw (c.in-Latch.is, c.latch_fault.ensures, c.last_wire-last.ensures)

pub returns-in-Gate : goal.returns-in-Gate
unfolding net_of code_fault
returns-in-Gate c =
    let g = c.in-Gate.g in
    let own : c.offset.result.0 ≡ gate_wire (alone c.args.net) g = omega (arith, c.offset.ensures, c.first_gate_wire.ensures) in
    rw (c.in-Gate.is, c.gate_fault.ensures, own)

pub returns-in-Address : goal.returns-in-Address
unfolding net_of code_fault code_of
returns-in-Address c = rw (c.in-Address.is, c.is_above.ensures, c.last_wire-last.ensures)

pub returns-in-WriteData : goal.returns-in-WriteData
unfolding net_of code_fault code_of
returns-in-WriteData c = rw (c.in-WriteData.is, c.is_above-in-WriteData.ensures, c.last_wire-last.ensures)

pub returns-in-SecondAddress : goal.returns-in-SecondAddress
unfolding net_of code_fault code_of
returns-in-SecondAddress c = rw (c.in-SecondAddress.is, c.is_above-in-SecondAddress.ensures, c.last_wire-last.ensures)

pub returns-in-SecondEnable : goal.returns-in-SecondEnable
unfolding net_of code_fault
returns-in-SecondEnable c = rw (c.in-SecondEnable.is, c.is_above-in-SecondEnable.ensures, c.last_wire-last.ensures)

pub returns-in-Control : goal.returns-in-Control
unfolding net_of code_fault
returns-in-Control c = rw (c.in-Control.is, c.is_above-in-Control.ensures, c.is_above-in-Control-2.ensures, c.is_above-in-Control-3.ensures, c.last_wire-last.ensures)
