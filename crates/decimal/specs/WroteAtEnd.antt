-- What a function that fills a text from the right leaves in the slice that it is lent (RULES L9). Cited by `fill_digits`, by
-- `fill_number` and by dimacs/specs/PrintCalls.
use Rattle.std.specs.Prelude.{ℕ, ◌-◌, ◌≡◌, List, ◌++◌, length, take}

-- a text at the end of what was there, everything before it untouched
abbrev pub at_end : List ℕ → List ℕ → List ℕ
at_end text old = take (length old - length text) old ++ text

-- that, and the answer is the text's length
pub record WroteAtEnd (text old new : List ℕ) (count : ℕ) : Type 0 where
  pub counted : count ≡ length text
  pub leaves : new ≡ at_end text old
