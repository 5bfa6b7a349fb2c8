-- The numbers that the words of a line are (RULES I2). Cited by the lines of an ASCII AIGER text.
use Rattle.std.specs.Prelude.{Option, Some, None, ℕ, ◌-◌, Bool, true, false, cond, ◌&&◌, List, [], ◌∷◌, map, get_or}
use Rattle.decimal.specs.TextValue.{number_in}
use Rattle.text_words.specs.Words.{lines_of, words_of}

-- whether all words are numbers, and which
abbrev pub is_unsigned : Option ℕ → Bool
is_unsigned (Some x) = true
is_unsigned None = false

abbrev pub unsigned_value : Option ℕ → ℕ
unsigned_value (Some x) = x
unsigned_value None = 0

unfoldable pub all_unsigned : List (List ℕ) → Bool
all_unsigned [] = true
all_unsigned (w ∷ ws) = is_unsigned (number_in w) && all_unsigned ws

unfoldable pub unsigned_values : List (List ℕ) → List ℕ
unsigned_values ws = map (λ w. unsigned_value (number_in w)) ws

-- the numbers that words are; none where one of them is no number
unfoldable pub word_numbers : List (List ℕ) → List ℕ
word_numbers ws = cond (all_unsigned ws) (unsigned_values ws) []

-- the words of line p, the first line being 1. A line that the text does not have has one word, the empty one, like an empty line
unfoldable pub words_at : List ℕ → ℕ → List (List ℕ)
words_at s p = words_of (get_or (lines_of s) (p - 1) [])
