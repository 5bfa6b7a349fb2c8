-- Lines of numbers as they are written (RULES I1 to I3): by these nobody has to believe how a text is split into lines, words and
-- numbers. Cited by `read_numbers` and `marrubigai_import`.
use Rattle.std.specs.Prelude.{ℕ, ◌-◌, ◌^◌, ◌<◌, ◌≡◌, cond, List, [], ◌∷◌, ◌++◌, map, eqb, length, get_or}
use Rattle.decimal.specs.Digits.{digits, space, line_feed}
use Rattle.text_words.specs.Words.{lines_of, spaced, Without}
use Rattle.aiger_lines.specs.Parts.{aag, numbers_on_line}

-- the digits of the numbers, with single spaces between
unfoldable pub numbers_text : List ℕ → List ℕ
numbers_text xs = spaced (map digits xs)

-- line p with these numbers: line 1 begins with `aag`
unfoldable pub line_with_numbers : ℕ → List ℕ → List ℕ
line_with_numbers p xs = cond (eqb p 1) (aag ++ space ∷ numbers_text xs) (numbers_text xs)

-- a text's lines are what line feeds end, and a line's numbers are what is written there and fit 32 bits. The first line is 1; one
-- that the text does not have is as an empty one
pub record TextAsWritten : Type 0 where
  pub text→lines : (x s : List ℕ) → Without line_feed x → lines_of (x ++ line_feed ∷ s) ≡ x ∷ lines_of s
  pub text→no-line : (x : List ℕ) → Without line_feed x → lines_of x ≡ []
  pub numbers→text : (s : List ℕ) (p : ℕ) → 0 < length (numbers_on_line s p) → get_or (lines_of s) (p - 1) [] ≡ line_with_numbers p (numbers_on_line s p)
  pub numbers_fit : (s : List ℕ) (p i : ℕ) → get_or (numbers_on_line s p) i 0 < 2 ^ 32
  pub text→numbers : (s : List ℕ) (p : ℕ) (xs : List ℕ) → 0 < length xs → ((i : ℕ) → get_or xs i 0 < 2 ^ 32)
      → get_or (lines_of s) (p - 1) [] ≡ line_with_numbers p xs → numbers_on_line s p ≡ xs
