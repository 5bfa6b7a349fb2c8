-- How far an answer is read, by whole lines, and what the lines ahead make of it. Cited by the functions that read one, and by no public
-- contract.
use Rattle.std.specs.Prelude.{Option, Some, None, ℕ, ◌≡◌, true, cond, List, [], ◌∷◌, ◌++◌, ℤ, drop}
use Rattle.decimal.specs.Digits.{space}
use Rattle.decimal.specs.TextValue.{same_text}
use Rattle.text_words.specs.Words.{Without}
use Rattle.answer_signs.specs.Signs.{SignsOf}
use Rattle.answer_lines.specs.Answer.{Answer, malformed, unsatisfiable, satisfiable, satisfiable_line, unsatisfiable_line, is_marked, is_zero, values_answer, nothing_more, status_answer, kept_lines}
use Rattle.answer_lines.specs.declared.Progress.{Progress}
use Rattle.answer_lines.specs.declared.Progress.TheVariants.{NoStatus, Values, Complete, Unsatisfiable, Malformed}

-- the answer of the lines ahead, comments left out
unfoldable pub answer_from : Progress → List (List ℕ) → Answer
answer_from NoStatus ls = status_answer ls
answer_from Values ls = values_answer ls
answer_from Complete ls = nothing_more (satisfiable []) ls
answer_from Unsatisfiable ls = nothing_more unsatisfiable ls
answer_from Malformed ls = malformed

-- an answer behind numbers that were read before
unfoldable pub after_numbers : List ℤ → Answer → Answer
after_numbers ys malformed = malformed
after_numbers ys unsatisfiable = unsatisfiable
after_numbers ys (satisfiable zs) = satisfiable (ys ++ zs)

-- what the status line makes of an answer
unfoldable pub status_in : List ℕ → Progress
status_in l = cond (same_text l satisfiable_line) Values (cond (same_text l unsatisfiable_line) Unsatisfiable Malformed)

-- what a number makes of it, and the number where it is not 0
abbrev pub progress_by : Option ℤ → Progress
progress_by (Some z) = cond (is_zero z) Complete Values
progress_by None = Malformed

abbrev pub number_by : Option ℤ → List ℤ
number_by (Some z) = cond (is_zero z) [] (z ∷ [])
number_by None = []

-- numbers were put into a table
abbrev pub MarkedAll : List ℤ → List ℕ → List ℕ → Type 0
MarkedAll zs old new = (ys : List ℤ) → SignsOf ys old → SignsOf (ys ++ zs) new

-- a number was read
pub record NumberRead (number : Option ℤ) (r : Progress) (old new : List ℕ) : Type 0 where
  pub progress-is : r ≡ progress_by number
  pub marked : MarkedAll (number_by number) old new

-- the numbers on a value line but the last are read already, and left out of the line
abbrev pub OneNumber : List ℕ → Type 0
OneNumber l = is_marked l ≡ true → Without space (drop 2 l)

-- a line was read
pub record LineRead (p : Progress) (l : List ℕ) (r : Progress) (old new : List ℕ) : Type 0 where
  pub numbers : List ℤ
  pub marked : MarkedAll numbers old new
  pub goes_on : (ls : List (List ℕ)) → answer_from p (kept_lines (l ∷ ls)) ≡ after_numbers numbers (answer_from r (kept_lines ls))
