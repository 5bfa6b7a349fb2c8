-- `netlist_tests::loop_fault` meets its contract: each arm knows its line, and every code's wire is within the table.

use Prim.Native.Nat.{ℕ}
use mathlib.Core.Path.{◌≡◌, subst}
use mathlib.Core.Bool.{Bool, false}
use mathlib.Core.Logic.{◌⊎◌, inl, inr}
use native.Mathlib.Omega.{arith}
use Rattle.model.proofs.Ports.{first-port, second-port}
use Rattle.netlist.specs.NetOf.{code_of, net_of, alone}
use Rattle.model.specs.Netlist.{Netlist}
use Rattle.netlist.specs.declared.Line.{Line}
use Rattle.netlist.specs.declared.Line.TheVariants.{Sizes, Memory, Latch, Gate, WriteData}
use Rattle.netlist.specs.Places.{HasLine}
use Rattle.netlist.specs.Faults.{loop_fault_by}
use Rattle.netlist_tests.proofs.loop_fault.Goals as goal

pub bounds-flags-wire_index : goal.bounds-flags-wire_index
unfolding net_of code_of
bounds-flags-wire_index c =
    let has = subst (HasLine (alone c.args.net)) c.in-Address.is c.requires.1 in
    omega (arith, c.requires.0.codes.address-fits 1 (first-port (alone c.args.net)) c.in-Address.t has, c.requires.0.sizes)

pub bounds-flags-wire_index-in-SecondAddress : goal.bounds-flags-wire_index-in-SecondAddress
unfolding net_of code_of
bounds-flags-wire_index-in-SecondAddress c =
    let has = subst (HasLine (alone c.args.net)) c.in-SecondAddress.is c.requires.1 in
    omega (arith, c.requires.0.codes.address-fits 2 (second-port (alone c.args.net) has.0) c.in-SecondAddress.t has.1, c.requires.0.sizes)

pub bounds-flags-wire_index-in-SecondEnable : goal.bounds-flags-wire_index-in-SecondEnable
unfolding net_of
bounds-flags-wire_index-in-SecondEnable c =
    let has = subst (HasLine (alone c.args.net)) c.in-SecondEnable.is c.requires.1 in
    omega (arith, c.requires.0.codes.RE-fits 2 (second-port (alone c.args.net) has), c.requires.0.sizes)

pub bounds-flags-wire_index-in-Control : goal.bounds-flags-wire_index-in-Control
unfolding net_of
bounds-flags-wire_index-in-Control c =
    omega (arith, c.requires.0.codes.RE-fits 1 (first-port (alone c.args.net)), c.requires.0.sizes)

-- no line but those of a port's address codes and its RE makes one
other-lines : (d : ℕ → Bool) (c : Netlist) {x : Line}
    → (x ≡ Sizes) ⊎ ((x ≡ Memory) ⊎ (((l : ℕ) × (x ≡ Latch l)) ⊎ (((g : ℕ) × (x ≡ Gate g)) ⊎ ((t : ℕ) × (x ≡ WriteData t)))))
    → false ≡ loop_fault_by d c x
unfolding loop_fault_by
other-lines d c (inl e) = rw e
other-lines d c (inr (inl e)) = rw e
other-lines d c (inr (inr (inl (l, e)))) = rw e
other-lines d c (inr (inr (inr (inl (g, e))))) = rw e
other-lines d c (inr (inr (inr (inr (t, e))))) = rw e

pub returns-in-Sizes : goal.returns-in-Sizes
returns-in-Sizes c = other-lines _ _ c.in-Sizes.is

pub returns-in-Address : goal.returns-in-Address
unfolding net_of code_of loop_fault_by
returns-in-Address c = rw (c.in-Address.is, c.wire_index.ensures)

pub returns-in-SecondAddress : goal.returns-in-SecondAddress
unfolding net_of code_of loop_fault_by
returns-in-SecondAddress c = rw (c.in-SecondAddress.is, c.wire_index-in-SecondAddress.ensures)

pub returns-in-SecondEnable : goal.returns-in-SecondEnable
unfolding net_of loop_fault_by
returns-in-SecondEnable c = rw (c.in-SecondEnable.is, c.wire_index-in-SecondEnable.ensures)

pub returns-in-Control : goal.returns-in-Control
unfolding net_of loop_fault_by
returns-in-Control c = rw (c.in-Control.is, c.wire_index-in-Control.ensures)
