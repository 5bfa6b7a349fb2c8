-- A line of 32 bytes as it is read and as it is written (RULES S1, S11 and T2). Cited by `read_line` and its parts,
-- sheet_lines/specs/Depth and sheet_parse/specs/Files.
use Rattle.std.specs.Prelude.{ℕ, ◌+◌, ◌*◌, ◌^◌, ◌<◌, ◌≡◌, Bool, true, false, cond, ◌&&◌, ◌||◌, List, [], ◌∷◌, ◌++◌, eqb, length, get_or, take, drop}
use Rattle.model.specs.Limits.{line_bytes}
use Rattle.decimal.specs.Digits.{line_feed, field, empty_field}
use Rattle.sheet_fields.specs.Fields.{field_of}
use Rattle.sheet_fields.specs.declared.Field.{Field}
use Rattle.sheet_fields.specs.declared.Field.TheVariants.{Empty, Filled, Misprinted}
use Rattle.sheet_lines.specs.Letters.{letter_of, kind_of, is_known, content_of}
use Rattle.sheet_lines.specs.declared.Kind.{Kind}
use Rattle.sheet_lines.specs.declared.ParsedLine.{ParsedLine}
use Rattle.sheet_lines.specs.declared.ParsedLine.TheVariants.{Misprint, Read}

-- what is read in a column, 0 to 2, behind the letter
unfoldable pub field_in : List ℕ → ℕ → Field
field_in s column = field_of (take 10 (drop (1 + 10 * column) s))

-- a field as its letter wants it: empty, or a number
abbrev pub as_wanted : ℕ → Field → Bool
as_wanted w Empty = eqb w 0 || eqb w 2
as_wanted w (Filled x) = eqb w 1 || eqb w 2
as_wanted w Misprinted = false

unfoldable pub all_as_wanted : Kind → Field → Field → Field → Bool
all_as_wanted k a b c = as_wanted (content_of k 0) a && as_wanted (content_of k 1) b && as_wanted (content_of k 2) c

-- the number in a field, 0 where it is empty
abbrev pub value_of : Field → ℕ
value_of Empty = 0
value_of (Filled x) = x
value_of Misprinted = 0

-- 1 where a field that may be empty or filled is empty: its 0 is then no number
abbrev pub left_empty : ℕ → Field → ℕ
left_empty w Empty = cond (eqb w 2) 1 0
left_empty w (Filled x) = 0
left_empty w Misprinted = 0

-- a line of this kind with these fields. RULES T2: "an unknown letter, a field not as its letter wants" is a misprint
unfoldable pub line_with : Kind → Field → Field → Field → ParsedLine
line_with k a b c =
    cond (is_known k && all_as_wanted k a b c) (Read k (value_of a) (value_of b) (value_of c) (left_empty (content_of k 2) c)) Misprint

-- RULES S1: "a letter, three fields of ten columns each, a line feed"; 32 bytes, of which the last is a line feed, or a misprint
unfoldable pub line_of : List ℕ → ParsedLine
line_of s =
    cond (eqb (length s) line_bytes && eqb (get_or s 31 0) line_feed)
    (line_with (kind_of (get_or s 0 0)) (field_in s 0) (field_in s 1) (field_in s 2))
    Misprint

-- a line as it is written: a field that may be empty or filled is empty where `e` is not 0
abbrev pub printed_field : ℕ → ℕ → ℕ → Field
printed_field w e x = cond (eqb w 1 || (eqb w 2 && eqb e 0)) (Filled x) Empty

abbrev pub field_text : Field → List ℕ
field_text Empty = empty_field
field_text (Filled x) = field x
field_text Misprinted = empty_field

unfoldable pub line_text : Kind → ℕ → ℕ → ℕ → ℕ → List ℕ
line_text k a b c e =
    letter_of k ∷ field_text (printed_field (content_of k 0) e a) ++ field_text (printed_field (content_of k 1) e b) ++ field_text (printed_field (content_of k 2) e c)
    ++ line_feed ∷ []

-- the two are one: what is read as a line is its text, and its text is read as the line, with 0 where a field is empty
pub record LinesAsWritten : Type 0 where
  pub read→text : (s : List ℕ) (k : Kind) (a b c e : ℕ) → line_of s ≡ Read k a b c e → s ≡ line_text k a b c e
  pub text→read : (k : Kind) (a b c e : ℕ) → is_known k ≡ true → a < 2 ^ 32 → b < 2 ^ 32 → c < 2 ^ 32
      → line_of (line_text k a b c e)
      ≡ Read k (value_of (printed_field (content_of k 0) e a)) (value_of (printed_field (content_of k 1) e b)) (value_of (printed_field (content_of k 2) e c))
      (left_empty (content_of k 2) (printed_field (content_of k 2) e c))
