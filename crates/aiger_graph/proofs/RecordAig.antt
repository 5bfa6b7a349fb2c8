-- A record's graph (specs/RecordAig.antt): its codes are defined where they fit, its own values are values of it, and records that agree
-- have one. No contract cites this file.
use Prim.Native.Nat.{ℕ, zero, suc, ◌+◌, ◌-◌, ◌*◌, ◌/◌, ◌≤◌, ◌<◌}
use mathlib.Core.Path.{◌≡◌, sym, ◌∙◌, ap}
use mathlib.Core.Bool.{Bool, cond}
use mathlib.Core.Logic.{by_cases}
use native.Mathlib.Decide.{dec_lt, ℕ_discrete}
use native.Mathlib.Omega.{arith}
use lib.Dec.{ltb}
use borrow.Author.Tests.{lt-ltb, le-ltb, eq-eqb, ne_eqb}
use Rattle.model.specs.Netlist.{Netlist, read_bits, last_wire}
use Rattle.model.specs.Agree.{Agree}
use Rattle.model.specs.Acceptance.{CodesFit}
use Rattle.model.proofs.Agree.{inputs-same, latches-same, gates-same, m-same, n-same, second-same}
use Rattle.model.proofs.Ports.{first-port, second-port}
use Rattle.model.proofs.Circuit.{Solves, evaluate-solves}
use Rattle.model.proofs.Renumbering.{network_of, DefinedBefore, constant, source, gate, SourceWire, netlist-defined, wire-defined, solves-obeys}
use Rattle.aiger_graph.specs.Aig.{AigValues, SameAig}
use Rattle.aiger_graph.specs.RecordAig.{input_or_read, control_output, output_of, record_aig, values_of}
use Rattle.aiger_graph.proofs.Values.{AigSource, an-input, a-latch, AigDefined}

-- the outputs between write data and WE are a second port's
pub some-second : (second m x : ℕ) → x < second * (m + 1) → 0 < second
some-second zero m x b = absurd (omega arith)
some-second (suc second) m x b = omega arith

-- an output's code is within its limit, where all codes are
second_fits : {c : Netlist} → CodesFit c → 0 < c.second_port → (t : ℕ) → cond (ltb t c.m) (c.address2 t) c.RE2 / 2 ≤ last_wire c
second_fits {c} fits some t =
    by_cases (dec_lt t c.m) (λ b. rw (lt-ltb t c.m b) (omega (arith, fits.address-fits 2 (second-port c some) t b)))
    (λ b. rw (le-ltb t c.m (omega arith)) (omega (arith, fits.RE-fits 2 (second-port c some))))

pub output-fits : {c : Netlist} → CodesFit c → (o : ℕ) → output_of c o / 2 ≤ last_wire c
unfolding output_of
output-fits {c} fits o =
    let control = control_output c.m c.n c.second_port in
    by_cases (dec_lt o c.m) (λ b. rw (lt-ltb o c.m b) (omega (arith, fits.address-fits 1 (first-port c) o b)))
    (λ b. rw (le-ltb o c.m (omega arith))
    (by_cases (dec_lt o (c.m + c.n)) (λ d. rw (lt-ltb o (c.m + c.n) d) (omega (arith, fits.data-fits (o - c.m) (omega arith))))
    (λ d. rw (le-ltb o (c.m + c.n) (omega arith))
    (by_cases (dec_lt o control)
    (λ s. rw (lt-ltb o control s)
    (second_fits fits (some-second c.second_port c.m (o - (c.m + c.n)) (omega arith)) (o - (c.m + c.n))))
    (λ s. rw (le-ltb o control (omega arith))
    (by_cases (ℕ_discrete o control) (λ e. rw (eq-eqb o control e) (omega (arith, fits.WE-fits)))
    (λ e. rw (ne_eqb o control e)
    (by_cases (ℕ_discrete o (control + 1)) (λ f. rw (eq-eqb o (control + 1) f) (omega (arith, fits.RE-fits 1 (first-port c))))
    (λ f. rw (ne_eqb o (control + 1) f) (omega (arith, fits.P-fits)))))))))))

-- a wire before the gates is the constant's, an input's, a latch's or a read bit's
wire-source : (c : Netlist) (g w : ℕ) → SourceWire c w → DefinedBefore (network_of c) (AigSource (record_aig c)) g w
unfolding input_or_read
wire-source c g w b =
    by_cases (ℕ_discrete w 0) constant λ z.
    by_cases (dec_lt w (1 + c.inputs))
    (λ l. source (an-input (w - 1) (omega arith) (rw (lt-ltb (w - 1) c.inputs (omega arith)) (omega arith)))) λ l.
    by_cases (dec_lt w (1 + c.inputs + c.latches)) (λ k. source (a-latch (w - (1 + c.inputs)) (omega arith) (omega arith))) λ k.
    let x : ℕ = w - (1 + c.latches) in
    source (an-input x (omega arith) (rw (le-ltb x c.inputs (omega arith)) (omega arith)))

before-source : (c : Netlist) (g w : ℕ) → DefinedBefore (network_of c) (SourceWire c) g w
    → DefinedBefore (network_of c) (AigSource (record_aig c)) g w
before-source c g w (constant e) = constant e
before-source c g w (source b) = wire-source c g w b
before-source c g w (gate e b k) = gate e b k

pub record-defined : {c : Netlist} → CodesFit c → AigDefined (record_aig c)
record-defined {c} fits =
    let operands = netlist-defined fits in
    let wire : (w : ℕ) → w ≤ last_wire c → DefinedBefore (network_of c) (AigSource (record_aig c)) c.gates w =
    λ w b. before-source c c.gates w (wire-defined c w b) in
    record {
      operands-defined =
          record {
            left-defined = λ g b. before-source c g _ (operands.left-defined g b);
            right-defined = λ g b. before-source c g _ (operands.right-defined g b);
          };
      next-defined = λ l b. wire (c.next l / 2) (omega (arith, fits.next_fits l b));
      output-defined = λ o b. wire (output_of c o / 2) (output-fits fits o);
    }

-- a record's own values are values of its graph
module _ (c : Netlist) (fits : CodesFit c) (input latch : ℕ → Bool) where
  solved : Solves c input latch (λ t. input (c.inputs + t)) (values_of c input latch)
  solved = evaluate-solves c input latch (λ t. input (c.inputs + t)) fits

  input-value : (x : ℕ) → x < c.inputs + read_bits c → values_of c input latch (input_or_read c x) ≡ input x
  unfolding input_or_read
  input-value x b =
      by_cases (dec_lt x c.inputs) (λ l. rw (lt-ltb x c.inputs l) (solved.at-input x l))
      (λ l.
      let back : c.inputs + (x - c.inputs) ≡ x = omega arith in
      rw (le-ltb x c.inputs (omega arith)) (solved.at_read (x - c.inputs) (omega arith) ∙ ap input back))

  pub record-values : AigValues (record_aig c) input latch (values_of c input latch)
  record-values = record { gates-obeyed = solves-obeys solved; at-input = input-value; at-latch = solved.at-latch }

-- records that agree have one graph
module _ (c d : Netlist) (q : Agree c d) where
  second-agrees : 0 < c.second_port → (t : ℕ) → cond (ltb t c.m) (c.address2 t) c.RE2 ≡ cond (ltb t c.m) (d.address2 t) d.RE2
  second-agrees some t =
      by_cases (dec_lt t c.m) (λ b. rw (lt-ltb t c.m b) (q.address_same 2 (second-port c some) t b))
      (λ b. rw (le-ltb t c.m (omega arith)) (q.RE-same 2 (second-port c some)))

  output-agrees : (o : ℕ) → output_of c o ≡ output_of d o
  unfolding output_of
  output-agrees o =
      let m = m-same c d q in
      let n = n-same c d q in
      let second = second-same c d q in
      let control = control_output c.m c.n c.second_port in
      by_cases (dec_lt o c.m) (λ b. rw (← m, lt-ltb o c.m b) (q.address_same 1 (first-port c) o b))
      (λ b. rw (← m, ← n, ← second, le-ltb o c.m (omega arith))
      (by_cases (dec_lt o (c.m + c.n)) (λ e. rw (lt-ltb o (c.m + c.n) e) (q.data-same (o - c.m) (omega arith)))
      (λ e. rw (le-ltb o (c.m + c.n) (omega arith))
      (by_cases (dec_lt o control)
      (λ s. rw (lt-ltb o control s)
      (second-agrees (some-second c.second_port c.m (o - (c.m + c.n)) (omega arith)) (o - (c.m + c.n))))
      (λ s. rw (le-ltb o control (omega arith), q.WE-same, q.RE-same 1 (first-port c), q.P-same))))))

  pub agree-aig : SameAig (record_aig d) (record_aig c)
  unfolding input_or_read
  agree-aig =
      let inputs = inputs-same c d q in
      let latches = latches-same c d q in
      let gates = gates-same c d q in
      let m = m-same c d q in
      let n = n-same c d q in
      let second = second-same c d q in
      record {
        counts_same =
            record {
              inputs-same = rw (← inputs, ← n, ← second);
              latches-same = sym latches;
              outputs-same = rw (← m, ← n, ← second);
              gates-same = sym gates;
            };
        input-same = λ x b. rw (← inputs, ← latches);
        latch-same = λ l b. rw (← inputs);
        next-same = λ l b. sym (q.next-same l (rw latches b));
        output-same = λ o b. sym (output-agrees o);
        own_same = λ g b. rw (← inputs, ← latches, ← n, ← second);
        left-same = λ g b. sym (q.left-same g (rw gates b));
        right-same = λ g b. sym (q.right-same g (rw gates b));
      }
