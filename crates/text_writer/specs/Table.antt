-- Two and four digits at a time, and the table of all groups of four. Cited by the functions that write a number's digits by the
-- table, and by `write_numbers` and what calls it.
use Rattle.std.specs.Prelude.{ℕ, zero, suc, ◌/◌, ◌%◌, ◌≤◌, ◌≡◌, List, [], ◌∷◌, ◌++◌, length}
use Rattle.decimal.specs.Digits.{digit}

-- both digits of a number below 100, a leading zero included
abbrev pub pair_digits : ℕ → List ℕ
pair_digits x = digit (x / 10) ∷ digit (x % 10) ∷ []

-- the four digits of a number below 10,000, leading zeros included
abbrev pub four_digits : ℕ → List ℕ
four_digits x = pair_digits (x / 100) ++ pair_digits (x % 100)

-- the four digits of each number below n, one after the other
unfoldable pub table_below : ℕ → List ℕ
table_below zero = []
table_below (suc n) = table_below n ++ four_digits n

-- a slice that is the table of all groups of four digits, or too short to be one
abbrev pub TableOrNone : List ℕ → Type 0
TableOrNone table = 40000 ≤ length table → table ≡ table_below 10000
