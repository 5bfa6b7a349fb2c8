-- The answer that a solver's text is, by its lines and words (RULES Q1 to Q7). Cited by the scan that reads such a text and by all that is
-- said of what a solver claims.
use Rattle.std.specs.Prelude.{Option, Some, None, ℕ, Bool, true, false, cond, ◌&&◌, List, [], ◌∷◌, ◌++◌, map, eqb, ℤ, pos, nat_abs, take, drop}
use Rattle.decimal.specs.Digits.{space, line_feed}
use Rattle.decimal.specs.TextValue.{same_text}
use Rattle.decimal.specs.SignedValue.{clause_number_in}
use Rattle.text_words.specs.Words.{rest_after, lines_of, words_of}
use Rattle.answer_lines.specs.declared.AnswerKind.{AnswerKind}
use Rattle.answer_lines.specs.declared.AnswerKind.TheVariants as kinds

-- what a text answers; where it is satisfiable, with the numbers before the last 0
pub data Answer : Type 0 where
  malformed : Answer
  unsatisfiable : Answer
  satisfiable : List ℤ → Answer

-- `c`, `s SATISFIABLE`, `s UNSATISFIABLE`, and `v` with the space before the first number
abbrev pub comment_mark : ℕ
comment_mark = 99

abbrev pub satisfiable_line : List ℕ
satisfiable_line = 115 ∷ space ∷ 83 ∷ 65 ∷ 84 ∷ 73 ∷ 83 ∷ 70 ∷ 73 ∷ 65 ∷ 66 ∷ 76 ∷ 69 ∷ []

abbrev pub unsatisfiable_line : List ℕ
unsatisfiable_line = 115 ∷ space ∷ 85 ∷ 78 ∷ 83 ∷ 65 ∷ 84 ∷ 73 ∷ 83 ∷ 70 ∷ 73 ∷ 65 ∷ 66 ∷ 76 ∷ 69 ∷ []

abbrev pub value_mark : List ℕ
value_mark = 118 ∷ space ∷ []

abbrev pub is_empty : {A : Type 0} → List A → Bool
is_empty [] = true
is_empty (x ∷ xs) = false

-- RULES Q2: "first byte is `c`"; the lines but those
abbrev pub is_comment : List ℕ → Bool
is_comment [] = false
is_comment (x ∷ l) = eqb x comment_mark

unfoldable pub kept_lines : List (List ℕ) → List (List ℕ)
kept_lines [] = []
kept_lines (l ∷ ls) = cond (is_comment l) (kept_lines ls) (l ∷ kept_lines ls)

-- whether all words are numbers, and which
abbrev pub is_clause_number : Option ℤ → Bool
is_clause_number (Some z) = true
is_clause_number None = false

abbrev pub number_value : Option ℤ → ℤ
number_value (Some z) = z
number_value None = pos 0

unfoldable pub all_clause_numbers : List (List ℕ) → Bool
all_clause_numbers [] = true
all_clause_numbers (w ∷ ws) = is_clause_number (clause_number_in w) && all_clause_numbers ws

unfoldable pub clause_numbers : List (List ℕ) → List ℤ
clause_numbers ws = map (λ w. number_value (clause_number_in w)) ws

-- RULES Q4: "the letter `v` and one or more numbers, a single space before each"; an empty word is no number
abbrev pub is_marked : List ℕ → Bool
is_marked l = same_text (take 2 l) value_mark

unfoldable pub is_value_line : List ℕ → Bool
is_value_line l = is_marked l && all_clause_numbers (words_of (drop 2 l))

unfoldable pub line_values : List ℕ → List ℤ
line_values l = clause_numbers (words_of (drop 2 l))

unfoldable pub all_value_lines : List (List ℕ) → Bool
all_value_lines [] = true
all_value_lines (l ∷ ls) = is_value_line l && all_value_lines ls

unfoldable pub all_values : List (List ℕ) → List ℤ
all_values [] = []
all_values (l ∷ ls) = line_values l ++ all_values ls

-- RULES Q4: "The last number of all is 0, and no other is"; the numbers before it
abbrev pub is_zero : ℤ → Bool
is_zero z = eqb (nat_abs z) 0

unfoldable pub only_last_zero : List ℤ → Bool
only_last_zero [] = false
only_last_zero (z ∷ zs) = cond (is_zero z) (is_empty zs) (only_last_zero zs)

unfoldable pub before_zero : List ℤ → List ℤ
before_zero [] = []
before_zero (z ∷ zs) = cond (is_zero z) [] (z ∷ before_zero zs)

-- what stands behind `s SATISFIABLE`: whether its lines are value lines, and their numbers
unfoldable pub answer_of_values : Bool → List ℤ → Answer
answer_of_values lines zs = cond (lines && only_last_zero zs) (satisfiable (before_zero zs)) malformed

unfoldable pub values_answer : List (List ℕ) → Answer
values_answer ls = answer_of_values (all_value_lines ls) (all_values ls)

-- RULES Q3: "No line follows `s UNSATISFIABLE`"
unfoldable pub nothing_more : Answer → List (List ℕ) → Answer
nothing_more a ls = cond (is_empty ls) a malformed

-- RULES Q3: "The first is the status line"
unfoldable pub status_answer : List (List ℕ) → Answer
status_answer [] = malformed
status_answer (l ∷ ls) =
    cond (same_text l satisfiable_line) (values_answer ls)
    (cond (same_text l unsatisfiable_line) (nothing_more unsatisfiable ls) malformed)

-- RULES Q7: "one that does not end in a line feed"
unfoldable pub answer_in : List ℕ → Answer
answer_in s = cond (is_empty (rest_after line_feed [] s)) (status_answer (kept_lines (lines_of s))) malformed

-- the answer without its numbers
abbrev pub answer_kind : Answer → AnswerKind
answer_kind malformed = kinds.Malformed
answer_kind unsatisfiable = kinds.Unsatisfiable
answer_kind (satisfiable ys) = kinds.Satisfiable
