-- What it says of a text that none of the tests of an import refuses (specs/ImportVerdict.antt). No contract cites this file.
use Prim.Native.Nat.{ℕ, suc, ◌+◌, ◌*◌, ◌≤◌}
use mathlib.Core.Path.{◌≡◌}
use mathlib.Core.Bool.{Bool, false, not}
use mathlib.Core.List.{List}
use lib.Dec.{eqb, ltb}
use borrow.Author.Tests.{ltb-false, eqb-true, not-false}
use Rattle.refusals.specs.Verdict.{Passed}
use Rattle.model.specs.Acceptance.{Accepted}
use Rattle.model.proofs.Booleans.{neither-true}
use Rattle.refusals.specs.Tests.{refuse_if, ◌then◌}
use Rattle.refusals.specs.declared.Refusal.{Refusal}
use Rattle.refusals.specs.declared.Refusal.TheVariants.{Size, CodeOutside, NoRoom, NotAiger, Interface, Undefined}
use Rattle.refusals.proofs.Tests.{refuse_if-passes, then-passes, in_order-passes}
use Rattle.netlist.specs.Faults.{size_fault, code_fault}
use Rattle.netlist.proofs.Faults.{sizes-fit, codes-fit}
use Rattle.netlist_tests.specs.Record.{test_lines, test_ports, lists_short}
use Rattle.netlist_tests.proofs.Record.{test_lines-passes}
use Rattle.netlist_tests.proofs.Acceptance.{lists-long, ports-pass}
use Rattle.aiger_graph.specs.RecordAig.{control_output}
use Rattle.aiger_lines.specs.Parts.{counts_in, lines_due, malformed_at}
use Rattle.aiger_definitions.specs.Definitions.{defines_again, undefined_at}
use Rattle.aiger_netlist.specs.TextNetlist.{aag_net}
use Rattle.aiger_netlist.specs.ImportVerdict.{place_of, first_line, not_aiger, wrong_interface, text_verdict, import_verdict}
use Rattle.aiger_netlist.proofs.Defined.{WellDefined}
use Rattle.aiger_netlist.proofs.Codes.{FitsInterface}

-- no line due has a fault that was tested
no_line : (s : List ℕ) (fault : List ℕ → ℕ → Bool) (r : Refusal) → first_line s fault r ≡ Passed
    → (p : ℕ) → 1 ≤ p → p ≤ lines_due (counts_in s) → fault s p ≡ false
no_line s fault r e p a b =
    (refuse_if-passes (fault s p) r (place_of p)).0
    ((in_order-passes (λ q. refuse_if (fault s q) r (place_of q)) (lines_due (counts_in s))).0 e p a b)

module _ (s : List ℕ) (m n second : ℕ) (passed : text_verdict s m n second ≡ Passed) where
  parts : (first_line s not_aiger NotAiger ≡ Passed)
      × ((refuse_if (wrong_interface (counts_in s) m n second) Interface 0 ≡ Passed) × (first_line s undefined_at Undefined ≡ Passed))
  unfolding text_verdict
  parts =
      let rest = refuse_if (wrong_interface (counts_in s) m n second) Interface 0 then first_line s undefined_at Undefined in
      let both = (then-passes (first_line s not_aiger NotAiger) rest).0 passed in (
        both.0,
        (then-passes (refuse_if (wrong_interface (counts_in s) m n second) Interface 0) (first_line s undefined_at Undefined)).0 both.1,
      )

  pub well-defined : WellDefined s
  well-defined =
      record {
        well-formed = λ p a b. ((neither-true (malformed_at s p) (defines_again s p)).0 (no_line s not_aiger NotAiger parts.0 p a b)).0;
        defined-once = λ p a b. ((neither-true (malformed_at s p) (defines_again s p)).0 (no_line s not_aiger NotAiger parts.0 p a b)).1;
        none-undefined = no_line s undefined_at Undefined parts.1.1;
      }

  pub fits-interface : FitsInterface (counts_in s) m n second
  fits-interface =
      let due = control_output m n second + 3 in
      let neither = (neither-true (ltb (counts_in s).inputs (suc second * n)) (not (eqb (counts_in s).outputs due))).0
      ((refuse_if-passes (wrong_interface (counts_in s) m n second) Interface 0).0 parts.1.0) in
      record {
        inputs-enough = ltb-false (counts_in s).inputs (suc second * n) neither.0;
        outputs-due = eqb-true (counts_in s).outputs due (not-false (eqb (counts_in s).outputs due) neither.1);
      }

-- the text's tests pass, the model accepts its netlist, and both lists have as many records as its sizes say
pub record ImportPassed (s : List ℕ) (m n word unknown second latch_room gate_room : ℕ) : Type 0 where
  pub text : text_verdict s m n second ≡ Passed
  pub accepted : Accepted (aag_net s m n word unknown second)
  pub latches-long : (aag_net s m n word unknown second).latches ≤ latch_room
  pub gates-long : (aag_net s m n word unknown second).gates ≤ gate_room

pub import-passed : (s : List ℕ) (m n word unknown second latch_room gate_room : ℕ) → import_verdict s m n word unknown second latch_room gate_room ≡ Passed
    → ImportPassed s m n word unknown second latch_room gate_room
unfolding import_verdict
import-passed s m n word unknown second latch_room gate_room e =
    let c = aag_net s m n word unknown second in
    let short = refuse_if (lists_short c latch_room gate_room) NoRoom 0 in
    let fault = test_lines c CodeOutside code_fault in
    let all = (then-passes (text_verdict s m n second) (test_lines c Size size_fault then fault then test_ports c then short)).0 e in
    let net = (then-passes (test_lines c Size size_fault) (fault then test_ports c then short)).0 all.1 in
    let codes = (then-passes fault (test_ports c then short)).0 net.1 in
    let last = (then-passes (test_ports c) short).0 codes.1 in
    let long = (lists-long c latch_room gate_room).0 ((refuse_if-passes (lists_short c latch_room gate_room) NoRoom 0).0 last.1) in
    record {
      text = all.0;
      accepted =
          record {
            limits =
                record {
                  sizes = (sizes-fit c).0 ((test_lines-passes c Size size_fault).0 net.0);
                  codes = (codes-fit c).0 ((test_lines-passes c CodeOutside code_fault).0 codes.0);
                };
            no_tie = ((ports-pass c).0 last.0).0;
            no_loop = ((ports-pass c).0 last.0).1;
          };
      latches-long = long.0;
      gates-long = long.1;
    }
