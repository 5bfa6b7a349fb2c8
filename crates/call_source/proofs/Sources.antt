-- Laws of specs/Sources.antt: what the tests have shown, and that a pair's variables have clause numbers. No contract cites this file.
use Prim.Native.Nat.{ℕ, suc, ◌+◌, ◌*◌, ◌≤◌, ◌<◌}
use mathlib.Core.Path.{◌≡◌}
use mathlib.Core.Bool.{true, not, ◌&&◌}
use native.Mathlib.Omega.{arith}
use lib.Dec.{leb, ltb}
use borrow.Author.Tests.{leb-true, ltb-false, not-false}
use Rattle.refusals.specs.Verdict.{Passed}
use Rattle.model.specs.Netlist.{Netlist, Port, ports, IsPort, port, last_wire}
use Rattle.model.specs.Acceptance.{SizesFit, IsCode}
use Rattle.model.specs.Variables.{stride, pair_base}
use Rattle.model.specs.Groups.{in_depth}
use Rattle.model.specs.declared.Group.{Group}
use Rattle.model.specs.declared.Group.TheVariants.{Wires, Pair, Closing, Property}
use Rattle.model.proofs.Booleans.{and-true}
use Rattle.model.proofs.Joined.{pair-in_depth, closing-in_depth}
use Rattle.model.proofs.Variables.{pair_base-least, port-within, base-most}
use Rattle.refusals.specs.declared.Refusal.TheVariants.{NoSuchGroup, CodeOutside}
use Rattle.refusals.proofs.Tests.{refuse_if-passes, then-passes}
use Rattle.literals.specs.Lit.{HasNumber}
use Rattle.call_position.specs.Literals.{numbering_verdict}
use Rattle.call_position.proofs.Literals.{numbering-shown}
use Rattle.call_source.specs.Sources.{port_in, source_verdict}

-- a pair or a closing that is there has a port that is there
pub port-there : (c : Netlist) (k : ℕ) (g : Group) → in_depth (ports c) k g ≡ true → 1 ≤ port_in g → IsPort c (port_in g)
unfolding port_in
port-there c k (Wires i) h l = absurd (omega arith)
port-there c k (Pair j i p) h l = ((pair-in_depth (ports c) k j i p).0 h).2
port-there c k (Closing i p) h l = ((closing-in_depth (ports c) k i p).0 h).1
port-there c k Property h l = absurd (omega arith)

-- the same of a group that is known to be one, with its frames; RE of its port is a code where that of the group's is
pub pair-there : (c : Netlist) (k : ℕ) {g : Group} {j i p : ℕ} → g ≡ Pair j i p → in_depth (ports c) k g ≡ true
    → (i ≤ k) × (j < i) × IsPort c p
pair-there c k {g} {j} {i} {p} e h = (pair-in_depth (ports c) k j i p).0 (rw e at h)

pub closing-there : (c : Netlist) (k : ℕ) {g : Group} {i p : ℕ} → g ≡ Closing i p → in_depth (ports c) k g ≡ true → (i ≤ k) × IsPort c p
closing-there c k {g} {i} {p} e h = (closing-in_depth (ports c) k i p).0 (rw e at h)

pub closing-RE : (c : Netlist) {g : Group} {i p : ℕ} → g ≡ Closing i p → IsCode c (port c (port_in g)).RE → IsCode c (port c p).RE
unfolding port_in
closing-RE c e h = rw e at h

-- what a call that is not refused has shown
pub source-shown : (c : Netlist) (k : ℕ) (g : Group) → source_verdict c k g ≡ Passed
    → SizesFit c × (k ≤ 255) × (in_depth (ports c) k g ≡ true) × (1 ≤ port_in g) × IsCode c (port c (port_in g)).RE
unfolding source_verdict
source-shown c k g h =
    let a = (then-passes (numbering_verdict c k) _).0 h in
    let b = numbering-shown c k a.0 in
    let d = (then-passes _ _).0 a.1 in
    let e = (and-true _ _).0 (not-false _ ((refuse_if-passes (not (in_depth (ports c) k g && leb 1 (port_in g))) NoSuchGroup 0).0 d.0)) in
    let re = (port c (port_in g)).RE in (
      b.0,
      b.1,
      e.0,
      leb-true 1 (port_in g) e.1,
      ltb-false (2 * last_wire c + 1) re ((refuse_if-passes (ltb (2 * last_wire c + 1) re) CodeOutside 0).0 d.1),
    )

-- a variable of a pair has a clause number
pub pair-has-number : (c : Netlist) (p : Port) → SizesFit c → p.first_variable + c.m + 4 ≤ stride c → (j i v : ℕ) → j < i → i ≤ 255
    → v ≤ c.m + 4 → HasNumber (pair_base c p j i) v
pair-has-number c p h fits j i v l d b =
    record {
      after = pair_base-least c p j i;
      bounded = omega (arith, port-within c p j i v l (omega arith), base-most c h (suc i) (omega arith));
    }
