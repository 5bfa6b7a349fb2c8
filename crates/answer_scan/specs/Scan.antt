-- A solver's answer that is read in pieces: what is kept of the text behind, so that the text ahead makes the same answer. Cited by the
-- functions of this crate and by what reads an answer; by no public contract.
use Rattle.std.specs.Prelude.{ℕ, ◌≤◌, ◌≡◌, Bool, true, false, cond, List, [], ◌∷◌, ◌++◌, ℤ, length, take}
use Rattle.decimal.specs.Digits.{space, line_feed}
use Rattle.text_words.specs.Words.{parts_after, rest_after}
use Rattle.answer_signs.specs.Signs.{SignsOf}
use Rattle.answer_lines.specs.Answer.{Answer, malformed, is_empty, is_comment, is_marked, kept_lines, answer_in}
use Rattle.answer_lines.specs.Progress.{answer_from, after_numbers, MarkedAll, OneNumber}
use Rattle.answer_lines.specs.declared.Progress.{Progress}
use Rattle.answer_lines.specs.declared.Progress.TheVariants.{NoStatus, Values, Complete, Unsatisfiable, Malformed}
use Rattle.answer_lines.specs.declared.AnswerKind.{AnswerKind}
use Rattle.answer_scan.specs.AnswerRead.{AnswerRead}
use Rattle.answer_scan.specs.declared.Position.{Position}
use Rattle.answer_scan.specs.declared.Scan.{Scan}

-- the answer that the text ahead makes, where a line is begun
unfoldable pub answer_ahead : Progress → List ℕ → List ℕ → Answer
answer_ahead p begun t =
    cond (is_empty (rest_after line_feed begun t)) (answer_from p (kept_lines (parts_after line_feed begun t))) malformed

-- the line that is begun, without the numbers on it that have ended
abbrev pub line_begun : Position → List ℕ → List ℕ
line_begun at line = take at.count line

-- whether value lines are read
abbrev pub is_values : Progress → Bool
is_values NoStatus = false
is_values Values = true
is_values Complete = false
is_values Unsatisfiable = false
is_values Malformed = false

-- what is kept of the line that is begun fits, and has one number at most
pub record LineKept (at : Position) (line : List ℕ) : Type 0 where
  pub full : length line ≡ 16
  pub within : at.count ≤ 16
  pub one_number : OneNumber (line_begun at line)

-- From progress p with `begun` to progress q with `next`, the text s was read, and the signs of the numbers that ended in it are in the table.
pub record Taken (p : Progress) (begun s : List ℕ) (q : Progress) (next old new : List ℕ) : Type 0 where
  pub numbers : List ℤ
  pub marked : MarkedAll numbers old new
  pub goes_on : (t : List ℕ) → answer_ahead p begun (s ++ t) ≡ after_numbers numbers (answer_ahead q next t)

-- no number ended in it, so that the answer ahead is the same
abbrev pub SameAhead : Progress → List ℕ → List ℕ → Progress → List ℕ → Type 0
SameAhead p begun s q next = (t : List ℕ) → answer_ahead p begun (s ++ t) ≡ answer_ahead q next t

-- a space ended a number: what is kept of the line is its mark, or the answer is malformed
pub record NumberEnded (p : Progress) (begun : List ℕ) (r : Position) (old new : List ℕ) : Type 0 where
  pub short : r.count ≤ 2
  pub taken : Taken p begun (space ∷ []) r.progress (take r.count begun) old new

-- a byte that goes on with the line: it ends neither the line nor a number, and the line is no comment
pub record Addable (begun : List ℕ) (x : ℕ) : Type 0 where
  pub no-comment : is_comment begun ≡ false
  pub no-line-feed : x ≡ line_feed → ⊥
  pub no_end : x ≡ space → is_marked begun ≡ false

-- the scan is behind the text `seen`: whatever follows, it makes the answer of the whole
pub record ScanBehind (seen : List ℕ) (scan : Scan) (signs : List ℕ) : Type 0 where
  pub numbers : List ℤ
  pub signs-are : SignsOf numbers signs
  pub goes_on : (t : List ℕ)
      → answer_in (seen ++ t) ≡ after_numbers numbers (answer_ahead scan.position.progress (line_begun scan.position scan.line) t)

-- at the start, with a table of no signs; behind one piece more, however the text is cut
abbrev pub ReadsNothing : Scan → Type 0
ReadsNothing r = (signs : List ℕ) → SignsOf [] signs → ScanBehind [] r signs

abbrev pub Reads : Scan → List ℕ → Scan → List ℕ → List ℕ → Type 0
Reads scan piece r old new = (seen : List ℕ) → ScanBehind seen scan old → ScanBehind (seen ++ piece) r new

-- at its end
abbrev pub Ends : Scan → AnswerKind → Type 0
Ends scan kind = (seen signs : List ℕ) → ScanBehind seen scan signs → AnswerRead seen signs kind
