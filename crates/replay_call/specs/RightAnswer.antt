-- What a replay shows of a right answer (RULES Y15): refusal 15 is of no answer to the formula, and the run shown is the one that is claimed.
-- Promised by `marrubigai_replay` and by `replay_call::replay`; the proof is in proofs/RightAnswer.antt.
use Rattle.std.specs.Prelude.{ℕ, ◌≡◌, false, Ok}
use Rattle.model.specs.Netlist.{Netlist}
use Rattle.model.specs.Acceptance.{Accepted}
use Rattle.model.specs.Numbers.{Assignment}
use Rattle.model.specs.Claim.{Satisfies}
use Rattle.answer_lines.specs.declared.AnswerKind.TheVariants.{Satisfiable}
use Rattle.replay_frame.specs.Replay.{Said, first_violation, BearsOut}
use Rattle.replay_call.specs.ReplayCall.{fed_fault, outcome}
use Rattle.replay_call.specs.declared.Replayed.TheVariants.{Broken}

-- the assignment a says of every variable that is not unclear what the answer says
abbrev pub Completes : Said → Assignment → Type 0
Completes y a = (v : ℕ) → y.unclear v ≡ false → y.value v ≡ a v

-- Whatever an answer leaves unclear: where nothing that is fed is, and an assignment that completes it makes all clauses of depth k true, the run
-- replayed is that of the assignment and breaks the property, and the first frame that does is answered
abbrev pub RightAnswerTheorem : Type 0
RightAnswerTheorem = (c : Netlist) → Accepted c → (y : Said) (k : ℕ) → fed_fault c y k ≡ false
    → (a : Assignment) → Completes y a → Satisfies c k a
    → BearsOut c y k a × (outcome c k Satisfiable y ≡ Ok (Broken (first_violation c y k)))
