-- `replay_call::replay` meets its contract: the tests, then the answer by its kind.

use mathlib.Core.Path.{sym, ◌∙◌}
use mathlib.Core.List.{[]}
use native.Mathlib.Omega.{arith}
use Rattle.std.proofs.lemmas.Result.{err_from_is_err_and}
use Rattle.netlist.specs.NetOf.{net_of}
use Rattle.netlist.proofs.NetOf.{sizes-lists}
use Rattle.replay_frame.proofs.OneRun.{one-run, room-enough}
use Rattle.replay_call.specs.ReplayCall.{replay_reply, replay_sent, replay_answer, replay_memory, replay_trace, unless_refused, trace_after, outcome, words_left}
use Rattle.replay_call.proofs.ReplayCall.{tests-shown}
use Rattle.replay_call.proofs.Settled.{faults-settled}
use Rattle.replay_call.proofs.TableSuffices.{table-suffices}
use Rattle.replay_call.proofs.RightAnswer.{right_answer}
use Rattle.replay_call.proofs.replay.Goals as goal

pub returns-in_err-test_replay : goal.returns-in_err-test_replay
unfolding replay_reply replay_sent replay_answer replay_memory replay_trace unless_refused trace_after outcome words_left
returns-in_err-test_replay c =
    let p = err_from_is_err_and c.from_residual.result c.from_residual.ensures.1 in
    let v = sym c.in_err-test_replay.ensures in record { answer = rw (p.1, p.2, v); memory = rw v; trace = rw v; settled = (faults-settled, table-suffices, one-run, room-enough, right_answer) }

pub word_count-requires : goal.word_count-requires
word_count-requires c =
    let v = sym c.in_ok-test_replay.ensures in
    sizes-lists c.args.net c.args.latches.now c.args.gates.now [] [] (tests-shown (net_of c.args.net c.args.latches.now c.args.gates.now) c.args.latch_count c.args.gate_count c.args.depth c.args.memory.now c.args.trace.now v).accepted.limits.sizes

pub fill_words-requires : goal.fill_words-requires
unfolding net_of
fill_words-requires c =
    let v = sym c.in_ok-test_replay.ensures in
    omega (arith, (tests-shown (net_of c.args.net c.args.latches.now c.args.gates.now) c.args.latch_count c.args.gate_count c.args.depth c.args.memory.now c.args.trace.now v).memory-size, c.word_count.ensures)

pub returns-in-Malformed : goal.returns-in-Malformed
unfolding net_of replay_reply replay_sent replay_answer replay_memory replay_trace unless_refused trace_after outcome words_left
returns-in-Malformed c =
    let v = sym c.in_ok-test_replay.ensures in
    let kind = c.in-Malformed.is in record { answer = rw (v, kind); memory = rw (v, kind, c.fill_words.ensures, c.word_count.ensures); trace = rw (v, kind); settled = (faults-settled, table-suffices, one-run, room-enough, right_answer) }

pub returns-in-Unsatisfiable : goal.returns-in-Unsatisfiable
unfolding replay_reply replay_sent replay_answer replay_memory replay_trace unless_refused trace_after outcome words_left
returns-in-Unsatisfiable c =
    let v = sym c.in_ok-test_replay.ensures in
    let kind = c.in-Unsatisfiable.is in record { answer = rw (v, kind); memory = rw (v, kind); trace = rw (v, kind); settled = (faults-settled, table-suffices, one-run, room-enough, right_answer) }

pub replay_values-requires : goal.replay_values-requires
replay_values-requires c =
    let v = sym c.in_ok-test_replay.ensures in
    tests-shown (net_of c.args.net c.args.latches.now c.args.gates.now) c.args.latch_count c.args.gate_count c.args.depth c.args.memory.now c.args.trace.now v

pub returns-in-Satisfiable : goal.returns-in-Satisfiable
unfolding replay_reply replay_sent replay_answer replay_memory replay_trace unless_refused trace_after outcome words_left
returns-in-Satisfiable c =
    let v = sym c.in_ok-test_replay.ensures in
    let kind = c.in-Satisfiable.is in
    let ran = c.replay_values.ensures in
    record { answer = rw (v, kind, ran.answers); memory = rw (v, kind) ran.memory-left; trace = rw (v, kind) (ran.trace-left ∙ rw ran.answers); settled = (faults-settled, table-suffices, one-run, room-enough, right_answer) }
