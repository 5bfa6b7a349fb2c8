-- What a writer leaves in the slice that it is lent (RULES G21, "The result is the count of numbers written .. What is behind
-- them is untouched"). Cited by every function that writes numbers or text into a borrowed slice, and
-- where records are delivered (call_lists/specs/Delivered).
use Rattle.std.specs.Prelude.{ℕ, ◌≡◌, List, ◌++◌, length, drop}

-- xs at the start of what was there, everything behind it untouched
abbrev pub over : {A : Type 0} → List A → List A → List A
over xs old = xs ++ drop (length xs) old

-- that, and the answer is the length of xs
pub record Wrote {A : Type 0} (xs old new : List A) (count : ℕ) : Type 0 where
  pub counted : count ≡ length xs
  pub leaves : new ≡ over xs old
