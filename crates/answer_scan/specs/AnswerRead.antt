-- What is known of a solver's answer when its whole text was read (RULES Q1 to Q7). Cited by what reads one, here and in `replay_answer` and
-- `replay`, and by `program_replay`.
use Rattle.std.specs.Prelude.{ℕ, ◌≡◌, List, ℤ}
use Rattle.answer_signs.specs.Signs.{SignsOf}
use Rattle.answer_lines.specs.Answer.{satisfiable, answer_in, answer_kind}
use Rattle.answer_lines.specs.declared.AnswerKind.{AnswerKind}

-- the text's answer: its kind, and where it is satisfiable the signs of its numbers
pub record AnswerRead (text signs : List ℕ) (kind : AnswerKind) : Type 0 where
  pub kind-is : kind ≡ answer_kind (answer_in text)
  pub signs-are : (ys : List ℤ) → answer_in text ≡ satisfiable ys → SignsOf ys signs
