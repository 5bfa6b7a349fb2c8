-- Answers as they are written: by these nobody has to believe how a text is split into lines, words and numbers. Cited by the end of
-- a scan.
use Rattle.std.specs.Prelude.{ℕ, ◌^◌, ◌<◌, ◌≡◌, true, List, [], ◌++◌, map, ℤ, pos, nat_abs, length, get_or}
use Rattle.decimal.specs.Digits.{line_feed, signed_digits}
use Rattle.text_words.specs.Words.{rest_after, lines_of, spaced, ended}
use Rattle.answer_lines.specs.Answer.{value_mark, is_value_line, line_values}

-- the value line of some numbers: `v`, and a space before the digits of each
unfoldable pub value_line : List ℤ → List ℕ
value_line zs = value_mark ++ spaced (map signed_digits zs)

-- clause numbers and zeros (RULES W4)
abbrev pub Numbers : List ℤ → Type 0
Numbers zs = (i : ℕ) → nat_abs (get_or zs i (pos 0)) < 2 ^ 31

-- a text that ends in a line feed is its lines, each with a line feed behind it; and the value lines are those of one or more numbers
pub record AnswerAsWritten : Type 0 where
  pub lines→text : (s : List ℕ) → rest_after line_feed [] s ≡ [] → ended line_feed (lines_of s) ≡ s
  pub line→numbers : (l : List ℕ) → is_value_line l ≡ true → (l ≡ value_line (line_values l)) × (0 < length (line_values l)) × Numbers (line_values l)
  pub numbers→line : (zs : List ℤ) → 0 < length zs → Numbers zs → (is_value_line (value_line zs) ≡ true) × (line_values (value_line zs) ≡ zs)
