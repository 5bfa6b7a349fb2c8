-- What a replay answers to the text of a solver's answer, and what it leaves in the lent memory and trace: replay_call/specs/ReplayCall, of the
-- text's answer (RULES Q1 to Q7) and of what it says of each variable. Cited by `marrubigai_replay`.
use Rattle.std.specs.Prelude.{ℕ, List, []}
use Rattle.model.specs.Netlist.{Netlist}
use Rattle.answer_lines.specs.Answer.{Answer, malformed, unsatisfiable, satisfiable, answer_in, answer_kind}
use Rattle.replay_frame.specs.Replay.{Said}
use Rattle.replay_call.specs.ReplayCall.{replay_sent, replay_memory, replay_trace}
use Rattle.replay_call.specs.Settled.{said_by}
use Rattle.replay_call.specs.declared.ReplayReply.{ReplayReply}

-- what an answer says of each variable (RULES Q5 and Q6): only a satisfiable one has numbers
unfoldable pub said_of : Answer → Said
said_of malformed = said_by []
said_of unsatisfiable = said_by []
said_of (satisfiable ys) = said_by ys

-- for a text s, a memory of `words` words and a trace of `room` bytes
unfoldable pub replay_for : Netlist → ℕ → ℕ → ℕ → List ℕ → ℕ → ℕ → ReplayReply
replay_for c latch_count gate_count k s words room =
    replay_sent c latch_count gate_count k (answer_kind (answer_in s)) (said_of (answer_in s)) words room

unfoldable pub memory_for : Netlist → ℕ → ℕ → ℕ → List ℕ → List ℕ → ℕ → List ℕ
memory_for c latch_count gate_count k s old room =
    replay_memory c latch_count gate_count k (answer_kind (answer_in s)) (said_of (answer_in s)) old room

unfoldable pub trace_for : Netlist → ℕ → ℕ → ℕ → List ℕ → ℕ → List ℕ → List ℕ
trace_for c latch_count gate_count k s words old =
    replay_trace c latch_count gate_count k (answer_kind (answer_in s)) (said_of (answer_in s)) words old
