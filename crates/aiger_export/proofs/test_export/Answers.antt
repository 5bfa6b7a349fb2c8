-- `aiger_export::test_export` meets its contract: the first test that refuses answers.

use Prim.Native.Nat.{◌≤◌}
use mathlib.Core.Path.{◌≡◌, sym}
use native.Mathlib.Omega.{arith}
use borrow.Author.Tests.{lt-ltb, le-ltb}
use Rattle.std.proofs.lemmas.Result.{err_from_is_err_and}
use Rattle.refusals.specs.Verdict.{Passed}
use Rattle.refusals.specs.Tests.{◌then◌}
use Rattle.netlist.specs.NetOf.{net_of}
use Rattle.netlist_tests.specs.Record.{record_verdict}
use Rattle.netlist_tests.proofs.Acceptance.{passes-accepted}
use Rattle.aiger_export.specs.ExportCall.{test_resets, test_export}
use Rattle.aiger_export.proofs.test_export.Goals as goal
use Rattle.aiger_export.proofs.test_export.Goals.{In_ok-test_record}

pub returns-in_err-test_record : goal.returns-in_err-test_record
unfolding test_export ◌then◌
returns-in_err-test_record c =
    let p = err_from_is_err_and c.from_residual.result c.from_residual.ensures.1 in
    rw (p.1, p.2, sym c.in_err-test_record.ensures)

-- the record passes its own tests, so its sizes are within their limits
module _ (c : In_ok-test_record) where
  passed : record_verdict (net_of c.args.net c.args.latches.now c.args.gates.now) c.args.latch_count c.args.gate_count ≡ Passed
  passed = sym c.in_ok-test_record.ensures

  latches-fit : c.args.net.latches ≤ 600
  unfolding net_of
  latches-fit = ((passes-accepted _ _ _).0 passed).0.limits.sizes.latches-fit

pub returns-then-net-gt0 : goal.returns-then-net-gt0
unfolding net_of test_export ◌then◌
returns-then-net-gt0 c = rw (passed (goal.at.returns-then-net-gt0 c).In_ok-test_record, lt-ltb 0 _ c.if-net-gt0.true)

pub first_reset-l-requires : goal.first_reset-l-requires
first_reset-l-requires c = latches-fit (goal.at.first_reset-l-requires c).In_ok-test_record

pub overflow_add-result : goal.overflow_add-result
overflow_add-result c = omega (arith, latches-fit (goal.at.overflow_add-result c).In_ok-test_record)

pub returns-then-l-net : goal.returns-then-l-net
unfolding net_of test_export test_resets ◌then◌
returns-then-l-net c =
    rw (passed (goal.at.returns-then-l-net c).In_ok-test_record, le-ltb 0 _ c.if-net-gt0.false, ← c.first_reset-l.ensures, lt-ltb _ _ c.if-l-net.true)

pub returns : goal.returns
unfolding net_of test_export test_resets ◌then◌
returns c =
    rw (passed (goal.at.returns c).In_ok-test_record, le-ltb 0 _ c.if-net-gt0.false, ← c.first_reset-l.ensures, le-ltb _ _ c.if-l-net.false)
