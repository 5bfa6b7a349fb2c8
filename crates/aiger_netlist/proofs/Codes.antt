-- Where a text passes 11 to 13, every code of its netlist is within its limits, so that 5 is never met (specs/TextNetlist.antt;
-- RULES T5 and T55). No contract cites this file.
use Prim.Native.Nat.{ℕ, suc, ◌+◌, ◌*◌, ◌/◌, ◌≤◌, ◌<◌}
use mathlib.Core.Path.{◌≡◌, refl}
use mathlib.Core.List.{List}
use mathlib.Core.Logic.{by_cases}
use native.Mathlib.Decide.{dec_lt}
use native.Mathlib.Nat.{mul-le-mul_right}
use native.Mathlib.Omega.{arith}
use borrow.Author.Tests.{lt-ltb}
use Rattle.refusals.specs.Verdict.{Passed}
use Rattle.model.specs.Netlist.{Netlist, gate_wire, last_wire}
use Rattle.model.specs.Network.{renamed}
use Rattle.model.specs.Acceptance.{CodesFit}
use Rattle.model.proofs.Ports.{each-port}
use Rattle.refusals.specs.declared.Refusal.TheVariants.{CodeOutside}
use Rattle.netlist.specs.Faults.{code_fault}
use Rattle.netlist.proofs.Faults.{codes-fit}
use Rattle.netlist_tests.specs.Record.{test_lines}
use Rattle.netlist_tests.proofs.Record.{test_lines-passes}
use Rattle.aiger_graph.specs.RecordAig.{control_output}
use Rattle.aiger_lines.specs.Parts.{counts_in, lines_due, text_gate_line}
use Rattle.aiger_lines.specs.declared.Counts.{Counts}
use Rattle.aiger_definitions.specs.Definitions.{number_at}
use Rattle.aiger_netlist.specs.TextNetlist.{text_sizes, wire_of, wire_of_variable, net_of_codes, aag_net}
use Rattle.aiger_netlist.specs.TextAig.{text_aig}
use Rattle.aiger_netlist.proofs.Lines.{Defining, by-input, by-latch, by-gate, wire-input, wire-read, wire-latch, wire-gate}
use Rattle.aiger_netlist.proofs.Defined.{WellDefined, Known, constant, line, wire-defined, next_known, output-known, left-known, right-known}

-- the text has the read bits among its inputs, and an output for each code that the memory and the property need
pub record FitsInterface (h : Counts) (m n second : ℕ) : Type 0 where
  pub inputs-enough : suc second * n ≤ h.inputs
  pub outputs-due : h.outputs ≡ control_output m n second + 3

-- the constant keeps its number
pub wire-zero : (s : List ℕ) (c : Netlist) → wire_of_variable s c 0 ≡ 0
unfolding wire_of_variable
wire-zero s c = refl

module _ (s : List ℕ) (ok : WellDefined s) (m n word unknown second : ℕ) (fits : FitsInterface (counts_in s) m n second) where
  abbrev h : Counts
  h = counts_in s

  abbrev sizes : Netlist
  sizes = text_sizes (counts_in s) m n word unknown second

  -- what a line before gate g's defines has a wire below the gate's
  wire-below : (g : ℕ) {q : ℕ} → q < text_gate_line (counts_in s) g → Defining (counts_in s) q → wire_of (counts_in s) sizes q < gate_wire sizes g
  wire-below g before (by-input x b e) =
      by_cases (dec_lt x sizes.inputs)
      (λ l. rw (e, wire-input (counts_in s) sizes (omega arith) x l) (omega arith))
      (λ l. rw (e, wire-read (counts_in s) sizes (omega arith) x (omega arith) b) (omega (arith, fits.inputs-enough)))
  wire-below g before (by-latch l b e) = rw (e, wire-latch (counts_in s) sizes (omega arith) l b) (omega arith)
  wire-below g before (by-gate e b k) = rw (k, wire-gate (counts_in s) sizes (omega arith) e) (omega arith)

  -- so a code whose variable is known before gate g has a code below twice its wire
  code_below : (p g x : ℕ) → p ≤ text_gate_line (counts_in s) g → Known s p (x / 2) → renamed (wire_of_variable s sizes) x < 2 * gate_wire sizes g
  unfolding renamed
  code_below p g x b k = let w = below k in omega (arith, w)
    where
      below : Known s p (x / 2) → wire_of_variable s sizes (x / 2) < gate_wire sizes g
      below (constant e) = rw (e, wire-zero s sizes) (omega arith)
      below (line q l d e) = rw (e, wire-defined s ok sizes d) (wire-below g (omega arith) d)

  -- and every code is one of the netlist's
  code_fits : (x : ℕ) → Known s (lines_due (counts_in s) + 1) (x / 2) → renamed (wire_of_variable s sizes) x ≤ 2 * last_wire sizes + 1
  code_fits x k = let w = code_below (lines_due (counts_in s) + 1) (counts_in s).gates x (omega arith) k in omega (arith, w)

  -- a second port has m address codes
  second-long : 0 < second → m ≤ second * m
  second-long some = let most : 1 * m ≤ second * m = mul-le-mul_right m some in omega arith

  pub text-codes-fit : CodesFit (aag_net s m n word unknown second)
  unfolding net_of_codes
  text-codes-fit =
      let due = fits.outputs-due in
      let control = control_output m n second in
      record {
        next_fits = λ l b. rw (lt-ltb l (counts_in s).latches b) (code_fits ((text_aig s).next l) (next_known s ok l b));
        reset-fits = λ l b. omega arith;
        left-fits = λ g b.
            rw (lt-ltb g (counts_in s).gates b)
            (code_below (text_gate_line (counts_in s) g) g (number_at s (text_gate_line (counts_in s) g) 1) (omega arith) (left-known s ok g b));
        right-fits = λ g b.
            rw (lt-ltb g (counts_in s).gates b)
            (code_below (text_gate_line (counts_in s) g) g (number_at s (text_gate_line (counts_in s) g) 2) (omega arith) (right-known s ok g b));
        address-fits =
            each-port (aag_net s m n word unknown second) (λ a e. (t : ℕ) → t < m → a t ≤ 2 * last_wire (aag_net s m n word unknown second) + 1)
            (λ t b. rw (lt-ltb t m b) (code_fits ((text_aig s).output t) (output-known s ok t (omega arith))))
            (λ some t b.
            let long = second-long some in
            rw (lt-ltb t (second * m) (omega arith)) (code_fits ((text_aig s).output (m + n + t)) (output-known s ok (m + n + t) (omega arith))));
        data-fits = λ t b. rw (lt-ltb t n b) (code_fits ((text_aig s).output (m + t)) (output-known s ok (m + t) (omega arith)));
        WE-fits = code_fits ((text_aig s).output control) (output-known s ok control (omega arith));
        RE-fits =
            each-port (aag_net s m n word unknown second) (λ a e. e ≤ 2 * last_wire (aag_net s m n word unknown second) + 1)
            (code_fits ((text_aig s).output (control + 1)) (output-known s ok (control + 1) (omega arith)))
            (λ some.
            let long = second-long some in
            rw (lt-ltb 0 second some) (code_fits ((text_aig s).output (m + n + m)) (output-known s ok (m + n + m) (omega arith))));
        P-fits = omega (arith, code_fits ((text_aig s).output (control + 2)) (output-known s ok (control + 2) (omega arith)));
      }

  -- 5 is never met
  pub no-code-fault : test_lines (aag_net s m n word unknown second) CodeOutside code_fault ≡ Passed
  no-code-fault = (test_lines-passes (aag_net s m n word unknown second) CodeOutside code_fault).1 ((codes-fit (aag_net s m n word unknown second)).1 text-codes-fit)
