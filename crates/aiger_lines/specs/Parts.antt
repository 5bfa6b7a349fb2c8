-- Which line of an ASCII AIGER text has which part, by the header's counts, and when a line is well-formed (RULES I1, I3 and I4).
-- Cited by the functions of this crate and by all that is said of such a text.
use Rattle.std.specs.Prelude.{ℕ, ◌+◌, ◌*◌, ◌%◌, Bool, true, false, cond, not, ◌&&◌, ◌||◌, List, [], ◌∷◌, eqb, ltb, length, get_or}
use Rattle.decimal.specs.TextValue.{same_text}
use Rattle.aiger_lines.specs.Numbers.{word_numbers, words_at}
use Rattle.aiger_lines.specs.declared.Counts.{Counts}
use Rattle.aiger_lines.specs.declared.Part.{Part}
use Rattle.aiger_lines.specs.declared.Part.TheVariants.{Header, Input, Latch, Output, Gate}

-- the bytes of `aag`
abbrev pub aag : List ℕ
aag = 97 ∷ 97 ∷ 103 ∷ []

-- the numbers behind a word, which a header begins with; none where it does not
abbrev pub numbers_behind : List ℕ → List (List ℕ) → List ℕ
numbers_behind word [] = []
numbers_behind word (w ∷ ws) = cond (same_text w word) (word_numbers ws) []

-- the numbers on line p, of line 1 those behind `aag`: none where the text has no such line, or where a word is no number
unfoldable pub numbers_on_line : List ℕ → ℕ → List ℕ
numbers_on_line s p = cond (eqb p 1) (numbers_behind aag (words_at s p)) (word_numbers (words_at s p))

-- RULES I3: the header's counts, M I L O A; all 0 where line 1 is no header
abbrev pub counts_from : List ℕ → Counts
counts_from xs =
    record { largest = get_or xs 0 0; inputs = get_or xs 1 0; latches = get_or xs 2 0; outputs = get_or xs 3 0; gates = get_or xs 4 0 }

unfoldable pub counts_of : List ℕ → Counts
counts_of xs = counts_from (cond (eqb (length xs) 5) xs [])

unfoldable pub counts_in : List ℕ → Counts
counts_in s = counts_of (numbers_on_line s 1)

-- RULES I3: the places of the lines: the header, inputs, latches, outputs, gates
abbrev pub text_input_line : Counts → ℕ → ℕ
text_input_line h x = 2 + x

abbrev pub text_latch_line : Counts → ℕ → ℕ
text_latch_line h l = 2 + h.inputs + l

abbrev pub text_output_line : Counts → ℕ → ℕ
text_output_line h o = 2 + h.inputs + h.latches + o

abbrev pub text_gate_line : Counts → ℕ → ℕ
text_gate_line h g = 2 + h.inputs + h.latches + h.outputs + g

-- how many lines there are
abbrev pub lines_due : Counts → ℕ
lines_due h = 1 + h.inputs + h.latches + h.outputs + h.gates

-- what the line at a place is
unfoldable pub part_at : Counts → ℕ → Part
part_at h p =
    cond (ltb p (text_input_line h 0)) Header
    (cond (ltb p (text_latch_line h 0)) Input
    (cond (ltb p (text_output_line h 0)) Latch
    (cond (ltb p (text_gate_line h 0)) Output Gate)))

-- RULES I3: how many numbers it has
abbrev pub width : Part → ℕ
width Header = 5
width Input = 1
width Latch = 2
width Output = 1
width Gate = 3

-- whether the first of them is a literal that it defines
abbrev pub defines : Part → Bool
defines Header = false
defines Input = true
defines Latch = true
defines Output = false
defines Gate = true

unfoldable pub any_above : ℕ → List ℕ → Bool
any_above limit [] = false
any_above limit (x ∷ xs) = ltb limit x || any_above limit xs

-- a literal that may not be defined: an odd one, or one below 2
abbrev pub not_definable : ℕ → Bool
not_definable x = ltb x 2 || eqb (x % 2) 1

-- RULES I4: a line of a part with these numbers is not well-formed: too few or too many of them, a literal above 2M + 1 (the header's five numbers are
-- none), or a defined one that is odd or below 2
unfoldable pub malformed_line : Counts → Part → List ℕ → Bool
malformed_line h part xs =
    not (eqb (length xs) (width part))
    || (ltb (width part) 5 && any_above (2 * h.largest + 1) xs)
    || (defines part && not_definable (get_or xs 0 0))

unfoldable pub malformed_at : List ℕ → ℕ → Bool
malformed_at s p = malformed_line (counts_in s) (part_at (counts_in s) p) (numbers_on_line s p)
