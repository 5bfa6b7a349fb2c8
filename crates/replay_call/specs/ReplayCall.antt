-- What a replay answers, and what it leaves in the lent memory and the lent trace (RULES Y1, Y5 to Y8, Y11 to Y14, T14, T15 and T49). Cited by the functions of this
-- crate; an answer is given by its kind and by what it says of each variable.
use Rattle.std.specs.Prelude.{ℕ, ◌+◌, ◌^◌, Bool, cond, List, ltb, length, Result, Ok, Err}
use Rattle.refusals.specs.Verdict.{Verdict}
use Rattle.model.specs.Search.{any_below}
use Rattle.model.specs.Wrote.{over}
use Rattle.model.specs.Netlist.{Netlist}
use Rattle.refusals.specs.Refusal.{refusal_number}
use Rattle.refusals.specs.Tests.{refuse_if, ◌then◌, if_passed}
use Rattle.refusals.specs.Slices.{test_room}
use Rattle.refusals.specs.declared.Refusal.TheVariants.{NoAnswer, NoViolation}
use Rattle.refusals.specs.declared.Refused.{Refused}
use Rattle.netlist_tests.specs.Record.{record_verdict}
use Rattle.call_unpacked.specs.Calls.{test_depth}
use Rattle.call_lists.specs.Delivered.{delivered}
use Rattle.answer_lines.specs.declared.AnswerKind.{AnswerKind}
use Rattle.answer_lines.specs.declared.AnswerKind.TheVariants.{Malformed, Unsatisfiable, Satisfiable}
use Rattle.replay_frame.specs.Replay.{Said, replayed_state, feed_fault, first_violation, trace_text, trace_length}
use Rattle.replay_call.specs.declared.Replayed.{Replayed}
use Rattle.replay_call.specs.declared.Replayed.TheVariants.{Broken, ClaimedUnsatisfiable}
use Rattle.replay_call.specs.declared.ReplayReply.{ReplayReply}

-- RULES T49: "the record with its lists, then 7, then 9 for the memory, then 9 for the trace". It is of a memory of `words` words and a trace of
-- `room` bytes
unfoldable pub replay_tests : Netlist → ℕ → ℕ → ℕ → ℕ → ℕ → Verdict
replay_tests c latch_count gate_count k words room =
    record_verdict c latch_count gate_count then test_depth k then test_room (2 ^ c.m) words then test_room (trace_length c k) room

-- something that the run is fed is unclear, in any frame up to k
abbrev pub fed_fault : Netlist → Said → ℕ → Bool
fed_fault c y k = any_below (k + 1) (feed_fault c y)

-- the verdict of a run through frame k (RULES T14 and T15)
unfoldable pub run_verdict : Netlist → Said → ℕ → Verdict
run_verdict c y k = refuse_if (fed_fault c y k) NoAnswer 0 then refuse_if (ltb k (first_violation c y k)) NoViolation 0

abbrev pub ReplayAnswer : Type 0
ReplayAnswer = Result Replayed Refused

-- a test's refusal, or the answer behind it
unfoldable pub unless_refused : Verdict → ReplayAnswer → ReplayAnswer
unless_refused (Ok _) a = a
unless_refused (Err e) a = Err e

-- what is answered to an answer of each kind
unfoldable pub outcome : Netlist → ℕ → AnswerKind → Said → ReplayAnswer
outcome c k Malformed y = Err (record { 0 = NoAnswer; 1 = 0 })
outcome c k Unsatisfiable y = Ok ClaimedUnsatisfiable
outcome c k Satisfiable y = unless_refused (run_verdict c y k) (Ok (Broken (first_violation c y k)))

unfoldable pub replay_answer : Netlist → ℕ → ℕ → ℕ → AnswerKind → Said → ℕ → ℕ → ReplayAnswer
replay_answer c latch_count gate_count k kind y words room =
    unless_refused (replay_tests c latch_count gate_count k words room) (outcome c k kind y)

-- an answer in numbers (RULES N9): the refusal's number and place, both 0 where nothing is refused; 1 where the answer claims to be
-- unsatisfiable; and the first frame that breaks the property
unfoldable pub replay_reply : ReplayAnswer → ReplayReply
replay_reply (Ok (Broken i)) = record { number = 0; place = 0; claimed = 0; first = i }
replay_reply (Ok ClaimedUnsatisfiable) = record { number = 0; place = 0; claimed = 1; first = 0 }
replay_reply (Err e) = record { number = refusal_number e.0; place = e.1; claimed = 0; first = 0 }

unfoldable pub replay_sent : Netlist → ℕ → ℕ → ℕ → AnswerKind → Said → ℕ → ℕ → ReplayReply
replay_sent c latch_count gate_count k kind y words room = replay_reply (replay_answer c latch_count gate_count k kind y words room)

-- RULES Y7: the first 2^m words after each kind of answer, what was behind them untouched
unfoldable pub words_left : Netlist → ℕ → AnswerKind → Said → List ℕ → List ℕ
words_left c k Malformed y old = delivered (2 ^ c.m) (λ _. 0) old
words_left c k Unsatisfiable y old = old
words_left c k Satisfiable y old =
    cond (fed_fault c y k) (delivered (2 ^ c.m) (λ _. 0) old) (delivered (2 ^ c.m) (replayed_state c y (k + 1)).memory old)

-- after a refusal that is tested before, the memory as it was
unfoldable pub replay_memory : Netlist → ℕ → ℕ → ℕ → AnswerKind → Said → List ℕ → ℕ → List ℕ
replay_memory c latch_count gate_count k kind y old room =
    if_passed (replay_tests c latch_count gate_count k (length old) room) (words_left c k kind y old) old

-- RULES Y6: the lines where the property breaks, what was behind them untouched; else the trace as it was
unfoldable pub trace_after : ReplayAnswer → List ℕ → List ℕ → List ℕ
trace_after (Ok (Broken i)) lines old = over lines old
trace_after (Ok ClaimedUnsatisfiable) lines old = old
trace_after (Err e) lines old = old

unfoldable pub replay_trace : Netlist → ℕ → ℕ → ℕ → AnswerKind → Said → ℕ → List ℕ → List ℕ
replay_trace c latch_count gate_count k kind y words old =
    trace_after (replay_answer c latch_count gate_count k kind y words (length old)) (trace_text c y k) old
