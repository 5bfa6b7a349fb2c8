-- The tests of a record pass exactly the netlists that the model accepts, where the lists are long enough (specs/Record.antt and
-- the model's Acceptance). Cited wherever a contract speaks of accepted records.
use Prim.Native.Nat.{ℕ, ◌≤◌}
use mathlib.Core.Path.{◌≡◌}
use mathlib.Core.Bool.{false}
use mathlib.Core.Logic.{◌↔◌}
use borrow.Author.Tests.{ltb-false, le-ltb}
use Rattle.refusals.specs.Verdict.{Passed}
use Rattle.refusals.specs.Tests.{refuse_if}
use Rattle.refusals.specs.declared.Refusal.TheVariants.{OutOfOrder, Size, CodeOutside, MemoryLoop, TiedAddress}
use Rattle.refusals.proofs.Tests.{refuse_if-passes, then-passes, passed_then, first_passes, rest-passes}
use Rattle.model.specs.Netlist.{Netlist, IsPort, port}
use Rattle.model.specs.Acceptance.{NoTie, NoLoop, Accepted}
use Rattle.netlist.specs.Faults.{size_fault, code_fault, tie_fault, loop_fault}
use Rattle.netlist_tests.specs.Record.{test_lines, lists_short, test_ports, record_verdict}
use Rattle.netlist.proofs.Places.{EveryLine}
use Rattle.netlist.proofs.Faults.{Without, neither, sizes-fit, codes-fit, no_tie_lem, no_loop_lem}
use Rattle.netlist_tests.proofs.Record.{test_lines-passes}

-- no list is short where each is long enough
pub lists-long : (c : Netlist) (latch_count gate_count : ℕ)
    → (lists_short c latch_count gate_count ≡ false) ↔ ((c.latches ≤ latch_count) × (c.gates ≤ gate_count))
lists-long c x y = neither (ltb-false x c.latches, le-ltb x c.latches) (ltb-false y c.gates, le-ltb y c.gates)

-- then the test of their lengths passes
lists-pass : (c : Netlist) (latch_count gate_count : ℕ)
    → (refuse_if (lists_short c latch_count gate_count) OutOfOrder 0 ≡ Passed) ↔ ((c.latches ≤ latch_count) × (c.gates ≤ gate_count))
lists-pass c x y =
    (λ e. (lists-long c x y).0 (test.0 e), λ h. test.1 ((lists-long c x y).1 h))
  where
    test : (refuse_if (lists_short c x y) OutOfOrder 0 ≡ Passed) ↔ (lists_short c x y ≡ false)
    test = refuse_if-passes (lists_short c x y) OutOfOrder 0

-- the tests of the ports pass where they have neither ties nor memory loops
pub ports-pass : (c : Netlist)
    → (test_ports c ≡ Passed) ↔ (((p : ℕ) → IsPort c p → NoTie c (port c p)) × ((p : ℕ) → IsPort c p → NoLoop c (port c p)))
ports-pass c = (
  λ e.
      let passed = (then-passes (test_lines c TiedAddress tie_fault) (test_lines c MemoryLoop loop_fault)).0 e in
      ((no_tie_lem c).0 (ties.0 passed.0), (no_loop_lem c).0 (loops.0 passed.1)),
  λ h. (then-passes (test_lines c TiedAddress tie_fault) (test_lines c MemoryLoop loop_fault)).1 (ties.1 ((no_tie_lem c).1 h.0), loops.1 ((no_loop_lem c).1 h.1)),
)
  where
    ties : (test_lines c TiedAddress tie_fault ≡ Passed) ↔ EveryLine c (Without tie_fault c)
    ties = test_lines-passes c TiedAddress tie_fault

    loops : (test_lines c MemoryLoop loop_fault ≡ Passed) ↔ EveryLine c (Without loop_fault c)
    loops = test_lines-passes c MemoryLoop loop_fault

-- no test of a record refuses exactly where the model accepts the netlist and both lists have as many records as their sizes say
pub passes-accepted : (c : Netlist) (latch_count gate_count : ℕ)
    → (record_verdict c latch_count gate_count ≡ Passed) ↔ (Accepted c × (c.latches ≤ latch_count) × (c.gates ≤ gate_count))
unfolding record_verdict
passes-accepted c x y = (accepted, passing)
  where
    accepted : record_verdict c x y ≡ Passed → Accepted c × (c.latches ≤ x) × (c.gates ≤ y)
    accepted e =
        let sizes : test_lines c Size size_fault ≡ Passed = search (first_passes, rest-passes) in
        let lists : refuse_if (lists_short c x y) OutOfOrder 0 ≡ Passed = search (first_passes, rest-passes) in
        let codes : test_lines c CodeOutside code_fault ≡ Passed = search (first_passes, rest-passes) in
        let free : test_ports c ≡ Passed = rest-passes _ _ (rest-passes _ _ (rest-passes _ _ e)) in
        let long = (lists-pass c x y).0 lists in (
          record {
            limits =
                record {
                  sizes = (sizes-fit c).0 ((test_lines-passes c Size size_fault).0 sizes);
                  codes = (codes-fit c).0 ((test_lines-passes c CodeOutside code_fault).0 codes);
                };
            no_tie = ((ports-pass c).0 free).0;
            no_loop = ((ports-pass c).0 free).1;
          },
          long.0,
          long.1,
        )

    passing : Accepted c × (c.latches ≤ x) × (c.gates ≤ y) → record_verdict c x y ≡ Passed
    passing h =
        rw ((test_lines-passes c Size size_fault).1 ((sizes-fit c).1 h.0.limits.sizes), (lists-pass c x y).1 (h.1, h.2), (test_lines-passes c CodeOutside code_fault).1 ((codes-fit c).1 h.0.limits.codes), (ports-pass c).1 (h.0.no_tie, h.0.no_loop))
        (simp passed_then)
