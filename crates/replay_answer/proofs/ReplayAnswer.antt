-- What a table of signs says is what the text's answer says, and where the answer is not satisfiable nothing that is said counts. No
-- contract cites this file.
use Prim.Native.Nat.{ℕ}
use mathlib.Core.Path.{◌≡◌, refl}
use mathlib.Core.List.{List}
use lib.IntN.{ℤ}
use lib.ListN.{length}
use Rattle.std.specs.Prelude.{Ok, Err}
use Rattle.refusals.specs.Verdict.{Verdict}
use Rattle.model.specs.Netlist.{Netlist}
use Rattle.answer_lines.specs.Answer.{Answer, malformed, unsatisfiable, satisfiable, answer_in, answer_kind}
use Rattle.answer_lines.specs.declared.AnswerKind.{AnswerKind}
use Rattle.answer_lines.specs.declared.AnswerKind.TheVariants.{Satisfiable}
use Rattle.answer_scan.specs.AnswerRead.{AnswerRead}
use Rattle.replay_frame.specs.Replay.{Said, said_in}
use Rattle.replay_call.specs.ReplayCall.{ReplayAnswer, replay_answer, replay_sent, replay_memory, replay_trace, replay_tests, unless_refused, outcome, words_left, trace_after}
use Rattle.replay_call.specs.Settled.{said_by}
use Rattle.replay_call.specs.Table.{ReplayAlike}
use Rattle.replay_call.proofs.TableSuffices.{table-suffices}
use Rattle.replay_answer.specs.ReplayAnswer.{said_of, replay_for, memory_for, trace_for}

-- an answer that has no frame leaves the trace, whatever the lines would be
trace-same : (v : Verdict) (a : ReplayAnswer) (lines lines' old : List ℕ) → trace_after a lines old ≡ trace_after a lines' old
    → trace_after (unless_refused v a) lines old ≡ trace_after (unless_refused v a) lines' old
unfolding unless_refused trace_after
trace-same (Ok _) a lines lines' old h = h
trace-same (Err e) a lines lines' old h = refl

module _ (c : Netlist) (latch_count gate_count k : ℕ) where
  -- where the answer is satisfiable, what is said is replayed as what its numbers say
  abbrev AnswersAlike : Answer → Said → Type 0
  AnswersAlike a y = (ys : List ℤ) → a ≡ satisfiable ys → ReplayAlike c latch_count gate_count k Satisfiable y (said_by ys)

  -- only a satisfiable answer's numbers count
  sent-same : (a : Answer) (y : Said) → AnswersAlike a y → (words room : ℕ)
      → replay_sent c latch_count gate_count k (answer_kind a) y words room
      ≡ replay_sent c latch_count gate_count k (answer_kind a) (said_of a) words room
  unfolding replay_sent replay_answer outcome said_of
  sent-same malformed y h words room = refl
  sent-same unsatisfiable y h words room = refl
  sent-same (satisfiable ys) y h words room = (h ys refl).same_sent words room

  memory-same : (a : Answer) (y : Said) → AnswersAlike a y → (old : List ℕ) (room : ℕ)
      → replay_memory c latch_count gate_count k (answer_kind a) y old room
      ≡ replay_memory c latch_count gate_count k (answer_kind a) (said_of a) old room
  unfolding replay_memory words_left said_of
  memory-same malformed y h old room = refl
  memory-same unsatisfiable y h old room = refl
  memory-same (satisfiable ys) y h old room = (h ys refl).same_memory old room

  traces-same : (a : Answer) (y : Said) → AnswersAlike a y → (words : ℕ) (old : List ℕ)
      → replay_trace c latch_count gate_count k (answer_kind a) y words old
      ≡ replay_trace c latch_count gate_count k (answer_kind a) (said_of a) words old
  unfolding replay_trace replay_answer outcome trace_after said_of
  traces-same malformed y h words old = trace-same (replay_tests c latch_count gate_count k words (length old)) _ _ _ old refl
  traces-same unsatisfiable y h words old = trace-same (replay_tests c latch_count gate_count k words (length old)) _ _ _ old refl
  traces-same (satisfiable ys) y h words old = (h ys refl).same-trace words old

  module _ {s table : List ℕ} {kind : AnswerKind} (read : AnswerRead s table kind) where
    said-is : AnswersAlike (answer_in s) (said_in table)
    said-is ys e = table-suffices c latch_count gate_count k Satisfiable ys table (read.signs-are ys e)

    -- what is answered and left by the kind and the table is what is answered and left by the text
    pub replay-is : (words room : ℕ)
        → replay_sent c latch_count gate_count k kind (said_in table) words room ≡ replay_for c latch_count gate_count k s words room
    unfolding replay_for
    replay-is words room = rw read.kind-is (sent-same (answer_in s) (said_in table) said-is words room)

    pub memory-is : (old : List ℕ) (room : ℕ)
        → replay_memory c latch_count gate_count k kind (said_in table) old room ≡ memory_for c latch_count gate_count k s old room
    unfolding memory_for
    memory-is old room = rw read.kind-is (memory-same (answer_in s) (said_in table) said-is old room)

    pub trace-is : (words : ℕ) (old : List ℕ)
        → replay_trace c latch_count gate_count k kind (said_in table) words old ≡ trace_for c latch_count gate_count k s words old
    unfolding trace_for
    trace-is words old = rw read.kind-is (traces-same (answer_in s) (said_in table) said-is words old)
