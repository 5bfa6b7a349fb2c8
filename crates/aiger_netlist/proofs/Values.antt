-- The netlist of a text has the graph of the text under other numbers, so that everything has in the netlist the value that it has in the
-- text (specs/TextAig.antt). No contract cites this file.
use Prim.Native.Nat.{ℕ, ◌+◌, ◌-◌, ◌*◌, ◌≤◌, ◌<◌}
use mathlib.Core.Path.{◌≡◌, refl, sym, ◌∙◌, ap}
use mathlib.Core.Bool.{cond}
use mathlib.Core.List.{List}
use mathlib.Core.Logic.{by_cases}
use native.Mathlib.Decide.{dec_lt, ℕ_discrete}
use native.Mathlib.Nat.{one-mul}
use native.Mathlib.Omega.{arith}
use lib.Dec.{ltb}
use borrow.Author.Tests.{lt-ltb, le-ltb, eq-eqb, ne_eqb}
use Rattle.model.specs.Netlist.{Netlist, input_wire, latch_wire, read_wire, gate_wire}
use Rattle.model.specs.Network.{renamed}
use Rattle.model.proofs.Renumbering as Renumbering
use Rattle.model.proofs.Renumbering.{DefinedBefore, source, gate, Defined, straight}
use Rattle.aiger_graph.specs.RecordAig.{input_or_read, control_output, output_of, record_aig}
use Rattle.aiger_graph.proofs.RecordAig.{some-second}
use Rattle.aiger_graph.proofs.Values.{AigSource, an-input, a-latch, AigDefined, RenumbersAig}
use Rattle.aiger_lines.specs.Parts.{counts_in, lines_due, text_input_line, text_latch_line, text_gate_line}
use Rattle.aiger_definitions.specs.Definitions.{defined_at}
use Rattle.aiger_netlist.specs.TextNetlist.{text_sizes, wire_of_variable, net_of_codes, aag_net}
use Rattle.aiger_netlist.specs.TextAig.{text_aig}
use Rattle.aiger_netlist.proofs.Lines.{by-input, by-latch, by-gate, wire-input, wire-read, wire-latch, wire-gate}
use Rattle.aiger_netlist.proofs.Defined.{WellDefined, Known, constant, line, wire-defined, next_known, output-known, left-known, right-known}
use Rattle.aiger_netlist.proofs.Codes.{FitsInterface, wire-zero}

-- what is known before gate g's line is defined before the gate
known-before : (s : List ℕ) (p g v : ℕ) → p ≤ text_gate_line (counts_in s) g → Known s p v
    → DefinedBefore (text_aig s).network (AigSource (text_aig s)) g v
known-before s p g v b (constant e) = Renumbering.constant e
known-before s p g v b (line q l (by-input x c k) e) = source (an-input x c (e ∙ ap (defined_at s) k))
known-before s p g v b (line q l (by-latch x c k) e) = source (a-latch x c (e ∙ ap (defined_at s) k))
known-before s p g v b (line q l (by-gate x c k) e) = gate x (omega arith) (e ∙ ap (defined_at s) k)

module _ (s : List ℕ) (ok : WellDefined s) where
  -- other codes are defined at all
  known-defined : (v : ℕ) → Known s (lines_due (counts_in s) + 1) v → Defined (text_aig s).network (AigSource (text_aig s)) v
  known-defined v k = known-before s (lines_due (counts_in s) + 1) (counts_in s).gates v (omega arith) k

  pub text-defined : AigDefined (text_aig s)
  text-defined =
      record {
        operands-defined =
            record {
              left-defined = λ g b. known-before s (text_gate_line (counts_in s) g) g _ (omega arith) (left-known s ok g b);
              right-defined = λ g b. known-before s (text_gate_line (counts_in s) g) g _ (omega arith) (right-known s ok g b);
            };
        next-defined = λ l b. known-defined _ (next_known s ok l b);
        output-defined = λ o b. known-defined _ (output-known s ok o b);
      }

  module _ (m n word unknown second : ℕ) (fits : FitsInterface (counts_in s) m n second) where
    abbrev sizes : Netlist
    sizes = text_sizes (counts_in s) m n word unknown second

    abbrev net : Netlist
    net = aag_net s m n word unknown second

    -- the wires of inputs, read bits, latches and gates
    input-wire : (x : ℕ) → x < sizes.inputs → wire_of_variable s sizes (defined_at s (text_input_line (counts_in s) x)) ≡ input_wire sizes x
    input-wire x b = wire-defined s ok sizes (by-input x (omega arith) refl) ∙ wire-input (counts_in s) sizes (omega arith) x b

    read-wire : (x : ℕ) → sizes.inputs ≤ x → x < (counts_in s).inputs
        → wire_of_variable s sizes (defined_at s (text_input_line (counts_in s) x)) ≡ read_wire sizes (x - sizes.inputs)
    read-wire x a b = wire-defined s ok sizes (by-input x b refl) ∙ wire-read (counts_in s) sizes (omega arith) x a b

    latch-wire : (l : ℕ) → l < (counts_in s).latches → wire_of_variable s sizes (defined_at s (text_latch_line (counts_in s) l)) ≡ latch_wire sizes l
    latch-wire l b = wire-defined s ok sizes (by-latch l b refl) ∙ wire-latch (counts_in s) sizes (omega arith) l b

    gate-wire : (g : ℕ) → g < (counts_in s).gates → wire_of_variable s sizes (defined_at s (text_gate_line (counts_in s) g)) ≡ gate_wire sizes g
    gate-wire g b = wire-defined s ok sizes (by-gate g b refl) ∙ wire-gate (counts_in s) sizes (omega arith) g

    input-renumbered : (x : ℕ) → x < (counts_in s).inputs → input_or_read net x ≡ wire_of_variable s sizes (defined_at s (text_input_line (counts_in s) x))
    unfolding net_of_codes input_or_read
    input-renumbered x b =
        by_cases (dec_lt x sizes.inputs) (λ l. rw (lt-ltb x sizes.inputs l) (sym (input-wire x l)))
        (λ l. rw (le-ltb x sizes.inputs (omega arith)) (sym (read-wire x (omega arith) b)))

    -- of a second port
    second-renumbered : second ≤ 1 → (t : ℕ) → t < second * (m + 1)
        → cond (ltb t m) (net.address2 t) net.RE2 ≡ renamed (wire_of_variable s sizes) ((text_aig s).output (m + n + t))
    unfolding net_of_codes
    second-renumbered most t b =
        let some = some-second second m t b in
        let one : second ≡ 1 = omega (arith, some) in
        let times : (x : ℕ) → second * x ≡ x = λ x. rw one (one-mul x) in
        by_cases (dec_lt t m) (λ l. rw (lt-ltb t m l, lt-ltb t (second * m) (omega (arith, times m))))
        (λ l. let last : t ≡ m = omega (arith, times (m + 1)) in rw (le-ltb t m (omega arith), lt-ltb 0 second some, last))

    output-renumbered : second ≤ 1 → (o : ℕ) → o < (counts_in s).outputs → output_of net o ≡ renamed (wire_of_variable s sizes) ((text_aig s).output o)
    unfolding net_of_codes output_of
    output-renumbered most o b =
        let control = control_output m n second in
        by_cases (dec_lt o m) (λ l. rw (lt-ltb o m l)) λ l.
        by_cases (dec_lt o (m + n))
        (λ d.
        let back : m + (o - m) ≡ o = omega arith in
        rw (le-ltb o m (omega arith), lt-ltb o (m + n) d, lt-ltb (o - m) n (omega arith), back)) λ d.
        by_cases (dec_lt o control)
        (λ f.
        let back : m + n + (o - (m + n)) ≡ o = omega arith in
        rw (le-ltb o m (omega arith), le-ltb o (m + n) (omega arith), lt-ltb o control f)
        (second-renumbered most (o - (m + n)) (omega arith) ∙ ap (λ (x : ℕ). renamed (wire_of_variable s sizes) ((text_aig s).output x)) back)) λ f.
        rw (le-ltb o m (omega arith), le-ltb o (m + n) (omega arith), le-ltb o control (omega arith))
        (by_cases (ℕ_discrete o control) (λ e. rw (eq-eqb o control e, e)) λ e.
        by_cases (ℕ_discrete o (control + 1)) (λ k. rw (ne_eqb o control e, eq-eqb o (control + 1) k, k)) λ k.
        let last : o ≡ control + 2 = omega (arith, fits.outputs-due) in
        rw (ne_eqb o control e, ne_eqb o (control + 1) k, last))

    -- so the netlist's graph is the text's, under other numbers
    pub text-renumbers : second ≤ 1 → RenumbersAig (wire_of_variable s sizes) (text_aig s) (record_aig net)
    unfolding net_of_codes
    text-renumbers most =
        record {
          counts_same =
              record {
                inputs-same = omega (arith, fits.inputs-enough);
                latches-same = refl;
                outputs-same = fits.outputs-due;
                gates-same = refl;
              };
          inputs-renamed = input-renumbered;
          latches-renamed = λ l b. sym (latch-wire l b);
          next-renamed = λ l b. rw (lt-ltb l (counts_in s).latches b);
          output-renamed = output-renumbered most;
          gates-renamed =
              record {
                zero-kept = wire-zero s sizes;
                gates-same = refl;
                own_same = λ g b. sym (gate-wire g b);
                operands_same = λ g b. straight (rw (lt-ltb g (counts_in s).gates b)) (rw (lt-ltb g (counts_in s).gates b));
              };
        }
