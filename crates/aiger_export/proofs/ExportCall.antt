-- Laws of specs/ExportCall.antt: what the tests of an export show. No contract cites this file.
use Prim.Native.Nat.{ℕ, ◌≤◌, ◌<◌}
use mathlib.Core.Path.{◌≡◌, sym, ◌∙◌}
use mathlib.Core.Bool.{false}
use mathlib.Core.Logic.{by_cases}
use native.Mathlib.Decide.{ℕ_discrete}
use native.Mathlib.Omega.{arith}
use lib.Dec.{eqb, ltb}
use borrow.Author.Tests.{eq-eqb, ltb-false}
use mathlib.Core.Bool.{true≢false}
use Rattle.refusals.specs.Verdict.{Passed}
use Rattle.model.specs.Netlist.{Netlist}
use Rattle.model.specs.Acceptance.{Accepted}
use Rattle.model.specs.Search.{first_where}
use Rattle.model.proofs.Search.{first_where-is}
use Rattle.refusals.specs.declared.Refusal.TheVariants.{OutOfOrder, Reset}
use Rattle.refusals.proofs.Tests.{first_passes, rest-passes, refuse_if-passes}
use Rattle.netlist.specs.Places.{memory_line, latch_line}
use Rattle.netlist_tests.specs.Record.{record_verdict}
use Rattle.netlist_tests.proofs.Acceptance.{passes-accepted}
use Rattle.aiger_export.specs.ExportCall.{test_single_port, test_resets, test_export}

-- the record is accepted
pub accepted : (c : Netlist) (latch_count gate_count : ℕ) → test_export c latch_count gate_count ≡ Passed → Accepted c
unfolding test_export
accepted c latch_count gate_count e =
    ((passes-accepted c latch_count gate_count).0 (first_passes (record_verdict c latch_count gate_count) _ e)).0

-- it has one port
pub single-port : (c : Netlist) (latch_count gate_count : ℕ) → test_export c latch_count gate_count ≡ Passed → c.second_port ≡ 0
unfolding test_export
single-port c latch_count gate_count e =
    let port = first_passes (test_single_port c) _ (rest-passes (record_verdict c latch_count gate_count) _ e) in
    omega (arith, ltb-false 0 c.second_port ((refuse_if-passes (ltb 0 c.second_port) OutOfOrder memory_line).0 port))

-- no latch has reset 1
no-reset : (c : Netlist) → test_resets c ≡ Passed → (l : ℕ) → l < c.latches → eqb (c.reset l) 1 ≡ false
unfolding test_resets
no-reset c e l h =
    let first : ℕ = first_where (λ l. eqb (c.reset l) 1) c.latches in
    let behind : c.latches ≤ first = ltb-false first c.latches ((refuse_if-passes (ltb first c.latches) Reset (latch_line c first)).0 e) in
    (first_where-is (λ l. eqb (c.reset l) 1) c.latches).none_before l (omega arith)

pub resets-zero : (c : Netlist) (latch_count gate_count : ℕ) → test_export c latch_count gate_count ≡ Passed → (l : ℕ) → l < c.latches → c.reset l ≡ 0
unfolding test_export
resets-zero c latch_count gate_count e l h =
    let others = rest-passes (test_single_port c) _ (rest-passes (record_verdict c latch_count gate_count) _ e) in
    let most = (accepted c latch_count gate_count e).limits.codes.reset-fits l h in
    by_cases (ℕ_discrete (c.reset l) 1)
    (λ one. absurd (true≢false (sym (eq-eqb (c.reset l) 1 one) ∙ no-reset c others l h)))
    (λ other. omega arith)
