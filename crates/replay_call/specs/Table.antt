-- A replay by a table of signs: what is answered and left of a satisfiable answer that has passed the tests, and that the table, which ends with
-- the last variable there may be, says all of an answer (RULES Q8). Cited by the functions of this crate, and by no public contract; the proof is in
-- proofs/TableSuffices.antt.
use Rattle.std.specs.Prelude.{ℕ, ◌≡◌, List, ℤ}
use Rattle.model.specs.Netlist.{Netlist}
use Rattle.answer_signs.specs.Signs.{SignsOf}
use Rattle.answer_lines.specs.declared.AnswerKind.{AnswerKind}
use Rattle.answer_lines.specs.declared.AnswerKind.TheVariants.{Satisfiable}
use Rattle.replay_frame.specs.Replay.{Said, said_in, trace_text}
use Rattle.replay_call.specs.ReplayCall.{ReplayAnswer, outcome, words_left, trace_after, replay_sent, replay_memory, replay_trace}
use Rattle.replay_call.specs.Settled.{said_by}

-- a satisfiable answer that has passed the tests
pub record ReplaysValues (c : Netlist) (y : Said) (k : ℕ) (memory trace memory' trace' : List ℕ) (r : ReplayAnswer) : Type 0 where
  pub answers : r ≡ outcome c k Satisfiable y
  pub memory-left : memory' ≡ words_left c k Satisfiable y memory
  pub trace-left : trace' ≡ trace_after r (trace_text c y k) trace

-- the same answer, memory and trace
pub record ReplayAlike (c : Netlist) (latch_count gate_count k : ℕ) (kind : AnswerKind) (y z : Said) : Type 0 where
  pub same_sent : (words room : ℕ) → replay_sent c latch_count gate_count k kind y words room ≡ replay_sent c latch_count gate_count k kind z words room
  pub same_memory : (old : List ℕ) (room : ℕ) → replay_memory c latch_count gate_count k kind y old room ≡ replay_memory c latch_count gate_count k kind z old room
  pub same-trace : (words : ℕ) (old : List ℕ) → replay_trace c latch_count gate_count k kind y words old ≡ replay_trace c latch_count gate_count k kind z words old

-- replayed by the table is replayed by the answer's numbers ys
abbrev pub TableSuffices : Type 0
TableSuffices = (c : Netlist) (latch_count gate_count k : ℕ) (kind : AnswerKind) (ys : List ℤ) (signs : List ℕ) → SignsOf ys signs
    → ReplayAlike c latch_count gate_count k kind (said_in signs) (said_by ys)
