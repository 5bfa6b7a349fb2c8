-- The table of letters (RULES S4, S5, S8, S11, S12 and S14): which line a letter stands for, and what its fields hold. Cited by the functions that
-- read a line, by sheet_steps/specs and sheet_parse/specs for the line due, and by call_replies/specs.
use Rattle.std.specs.Prelude.{ℕ, ◌<◌, ◌≡◌, Bool, cond, ◌&&◌, ◌||◌, List, [], ◌∷◌, eqb, ltb, get_or}
use Rattle.sheet_lines.specs.declared.Kind.{Kind}
use Rattle.sheet_lines.specs.declared.Kind.TheVariants.{Sizes, Memory, TwoPorts, Latch, Gate, Address, WriteData, SecondAddress, SecondEnable, Control, Unknown}

-- the kinds of lines in the order of RULES S5
abbrev pub kinds : List Kind
kinds = Sizes ∷ Memory ∷ TwoPorts ∷ Latch ∷ Gate ∷ Address ∷ WriteData ∷ SecondAddress ∷ SecondEnable ∷ Control ∷ []

-- the row of each kind (RULES S8), from 0, in this order; an unknown letter has none: 10 is behind the last
abbrev pub row_of : Kind → ℕ
row_of Sizes = 0
row_of Memory = 1
row_of TwoPorts = 2
row_of Latch = 3
row_of Gate = 4
row_of Address = 5
row_of WriteData = 6
row_of SecondAddress = 7
row_of SecondEnable = 8
row_of Control = 9
row_of Unknown = 10

-- by rows, the letters N, M, T, L, G, A, D, B, R and C. An unknown letter has none of its own; 0 is no letter
abbrev pub letter_of : Kind → ℕ
letter_of k = get_or (78 ∷ 77 ∷ 84 ∷ 76 ∷ 71 ∷ 65 ∷ 68 ∷ 66 ∷ 82 ∷ 67 ∷ []) (row_of k) 0

-- and how many numbers a line has at most: I, L, A; m, n, start word (M and T); next code, reset; code, code; a code (A, D, B, R); WE, RE, P
abbrev pub numbers_in : Kind → ℕ
numbers_in k = get_or (3 ∷ 3 ∷ 3 ∷ 2 ∷ 2 ∷ 1 ∷ 1 ∷ 1 ∷ 1 ∷ 3 ∷ []) (row_of k) 0

-- RULES S4: "The letter says which line it is"; the kind of a list that has the letter c
abbrev pub kind_among : List Kind → ℕ → Kind
kind_among [] c = Unknown
kind_among (k ∷ ks) c = cond (eqb c (letter_of k)) k (kind_among ks c)

unfoldable pub kind_of : ℕ → Kind
kind_of c = kind_among kinds c

-- whether the letter is one of the table's
abbrev pub is_known : Kind → Bool
is_known k = ltb (row_of k) 10

-- RULES S14: "The second line is M, and there is one port; or it is T, and there are two"
abbrev pub is_memory : Kind → Bool
is_memory k = eqb (row_of k) (row_of Memory) || eqb (row_of k) (row_of TwoPorts)

abbrev pub second_port_of : Kind → ℕ
second_port_of k = cond (eqb (row_of k) (row_of TwoPorts)) 1 0

-- RULES S12, what a field is to be: 0 empty, 1 filled, 2 either. RULES S11: "the third field of M or T may be empty"; else the numbers stand in the first
-- columns (counted from 0), and the others are empty
unfoldable pub content_of : Kind → ℕ → ℕ
content_of k column = cond (is_memory k && eqb column 2) 2 (cond (ltb column (numbers_in k)) 1 0)

-- a table of ten rows and three columns that says so
unfoldable pub ContentsAsPrinted : List (List ℕ) → Type 0
ContentsAsPrinted table =
    (k : Kind) (column : ℕ) → row_of k < 10 → column < 3 → get_or (get_or table (row_of k) []) column 0 ≡ content_of k column
