-- All that `replay` prints, for an input s and the text t of a solver's answer (RULES P3, P11 and P13 to P15): the first line, by what the replay
-- answers in numbers, with the lines of all frames behind it where a frame is answered; or the input's refusal. Cited by the functions of this crate
-- and by those of `replay` that print.
use Rattle.std.specs.Prelude.{ℕ, Bool, cond, ◌&&◌, List, [], ◌∷◌, ◌++◌, eqb}
use Rattle.model.specs.Limits.{most_wires}
use Rattle.model.specs.Netlist.{Netlist}
use Rattle.decimal.specs.Digits.{space, line_feed, digits}
use Rattle.dimacs.specs.Text.{refusal_text}
use Rattle.answer_lines.specs.Answer.{answer_in}
use Rattle.replay_frame.specs.Replay.{trace_text}
use Rattle.replay_call.specs.declared.ReplayReply.{ReplayReply}
use Rattle.replay_answer.specs.ReplayAnswer.{said_of, replay_for}
use Rattle.program_input.specs.Input.{text_for}
use Rattle.program_replay.specs.Room.{most_words, most_trace_bytes}

-- neither refused nor claimed: a frame that breaks the property was found
unfoldable pub is_broken : ReplayReply → Bool
is_broken r = eqb r.number 0 && eqb r.claimed 0

-- the bytes of `claimed unsatisfiable`
abbrev pub claimed_unsatisfiable : List ℕ
claimed_unsatisfiable =
    99 ∷ 108 ∷ 97 ∷ 105 ∷ 109 ∷ 101 ∷ 100 ∷ space ∷ 117 ∷ 110 ∷ 115 ∷ 97 ∷ 116 ∷ 105 ∷ 115 ∷ 102 ∷ 105 ∷ 97 ∷ 98 ∷ 108 ∷ 101 ∷ []

-- the first frame that breaks the property, unpadded; or the claim; or the refusal
unfoldable pub answer_text : ReplayReply → List ℕ
answer_text r =
    cond (is_broken r) (digits r.first ++ line_feed ∷ []) (cond (eqb r.number 0) (claimed_unsatisfiable ++ line_feed ∷ []) (refusal_text r.number r.place))

-- the first line with `lines` behind it, or alone
unfoldable pub answer_then : ReplayReply → List ℕ → List ℕ
answer_then r lines = answer_text r ++ cond (is_broken r) lines []

-- of an accepted netlist at depth k: what `marrubigai_replay` answers with the largest memory and trace, and the lines of all frames (RULES Y6)
unfoldable pub replayed_text : Netlist → ℕ → List ℕ → List ℕ
replayed_text c k t = answer_then (replay_for c most_wires most_wires k t most_words most_trace_bytes) (trace_text c (said_of (answer_in t)) k)

unfoldable pub replay_text : List ℕ → List ℕ → List ℕ
replay_text s t = text_for (λ c k. replayed_text c k t) s
