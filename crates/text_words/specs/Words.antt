-- A text as lines, and a line as words: the parts that one byte ends (RULES I1, I2 and Q1). By these a text that comes in pieces has the
-- lines and words of the whole, and the parts of a text are its only ones: laws in proofs/Words.antt. A text is a list of bytes. Cited by
-- what reads a text of lines.
use Rattle.std.specs.Prelude.{ℕ, ◌<◌, ◌≡◌, cond, List, [], ◌∷◌, ◌++◌, eqb, length, get_or}
use Rattle.decimal.specs.Digits.{space, line_feed}

-- the parts of a text that the byte e ends. `begun` is what stands since the e before
unfoldable pub parts_after : ℕ → List ℕ → List ℕ → List (List ℕ)
parts_after e begun [] = []
parts_after e begun (x ∷ s) = cond (eqb x e) (begun ∷ parts_after e [] s) (parts_after e (begun ++ x ∷ []) s)

-- what stands behind the last of them
unfoldable pub rest_after : ℕ → List ℕ → List ℕ → List ℕ
rest_after e begun [] = begun
rest_after e begun (x ∷ s) = cond (eqb x e) (rest_after e [] s) (rest_after e (begun ++ x ∷ []) s)

-- RULES I1 and Q1: the lines of a text, each ended by a line feed; what stands behind the last line feed is no line
abbrev pub lines_of : List ℕ → List (List ℕ)
lines_of s = parts_after line_feed [] s

-- RULES I2: the words of a line, what single spaces separate. Two spaces in a row, or one at an end, make an empty word
unfoldable pub words_of : List ℕ → List (List ℕ)
words_of s = parts_after space [] s ++ rest_after space [] s ∷ []

-- words as a line: with single spaces between them
unfoldable pub spaced : List (List ℕ) → List ℕ
spaced [] = []
spaced (w ∷ []) = w
spaced (w ∷ x ∷ ws) = w ++ space ∷ spaced (x ∷ ws)

-- parts joined, each with the byte e behind it
unfoldable pub ended : ℕ → List (List ℕ) → List ℕ
ended e [] = []
ended e (x ∷ xs) = x ++ e ∷ ended e xs

-- a text that does not have the byte e
abbrev pub Without : ℕ → List ℕ → Type 0
Without e s = (i : ℕ) → i < length s → get_or s i 0 ≡ e → ⊥
