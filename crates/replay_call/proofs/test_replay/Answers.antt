-- `replay_call::test_replay` meets its contract: each answer is that of the first test that refuses.

use Prim.Native.Nat.{◌≤◌}
use mathlib.Core.Path.{◌≡◌, sym}
use mathlib.Core.List.{[]}
use native.Mathlib.Omega.{arith}
use Rattle.std.proofs.lemmas.Result.{err_from_is_err_and}
use Rattle.refusals.specs.Verdict.{Passed}
use Rattle.model.specs.Acceptance.{SizesFit}
use Rattle.refusals.specs.Tests.{◌then◌}
use Rattle.netlist.specs.NetOf.{net_of, alone}
use Rattle.netlist.proofs.NetOf.{sizes-lists}
use Rattle.netlist_tests.specs.Record.{record_verdict}
use Rattle.call_unpacked.specs.Calls.{test_depth}
use Rattle.call_unpacked.proofs.Calls.{depth-shown}
use Rattle.replay_call.proofs.ReplayCall.{tests-refused, tests-memory, tests-trace, tests-passed}
use Rattle.replay_call.proofs.test_replay.Goals as goal
use Rattle.replay_call.proofs.test_replay.Goals.{In_ok-test_depth}

-- the record and the depth have passed their tests
asked : (c : In_ok-test_depth) →
    Passed ≡ (record_verdict (net_of c.args.net c.args.latches.now c.args.gates.now) c.args.latch_count c.args.gate_count then test_depth c.args.depth)
asked c = c.in_ok-test_depth.ensures

-- what they have shown
shown : (c : In_ok-test_depth) →
    SizesFit (alone c.args.net) × (c.args.depth ≤ 255)
shown c =
    let ok = depth-shown _ _ _ _ (sym (asked c)) in
    (sizes-lists c.args.net c.args.latches.now c.args.gates.now [] [] ok.0.limits.sizes, ok.1)

pub returns-in_err-test_depth : goal.returns-in_err-test_depth
returns-in_err-test_depth c =
    let p = err_from_is_err_and c.from_residual.result c.from_residual.ensures.1 in
    rw (p.1, p.2) (sym (tests-refused _ _ _ _ _ _ c.in_err-test_depth.ensures))

pub word_count-requires : goal.word_count-requires
word_count-requires c = (shown c).0

pub returns-then-words-word_count : goal.returns-then-words-word_count
unfolding net_of
returns-then-words-word_count c =
    sym (tests-memory _ _ _ _ _ _ (asked (goal.at.returns-then-words-word_count c).In_ok-test_depth) (omega (arith, c.if-words-word_count.true, c.word_count.ensures)))

pub trace_length-requires : goal.trace_length-requires
trace_length-requires c = shown (goal.at.trace_length-requires c).In_ok-test_depth

pub returns-then-room-trace_length : goal.returns-then-room-trace_length
unfolding net_of
returns-then-room-trace_length c =
    sym (tests-trace _ _ _ _ _ _ (asked (goal.at.returns-then-room-trace_length c).In_ok-test_depth) (omega (arith, c.if-words-word_count.false, c.word_count.ensures)) (omega (arith, c.if-room-trace_length.true, c.trace_length.ensures)))

pub returns : goal.returns
unfolding net_of
returns c =
    sym (tests-passed _ _ _ _ _ _ (asked (goal.at.returns c).In_ok-test_depth) (omega (arith, c.if-words-word_count.false, c.word_count.ensures)) (omega (arith, c.if-room-trace_length.false, c.trace_length.ensures)))
