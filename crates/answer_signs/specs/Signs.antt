-- What a list of DIMACS literals (clause numbers) says of a variable, and a table of it (RULES Q5 and Q6). Cited by the functions of this
-- crate, by the scan that fills a table and by what a run is fed.
use Rattle.std.specs.Prelude.{ℕ, ◌+◌, ◌<◌, ◌≡◌, Bool, false, cond, ◌||◌, List, [], ◌∷◌, eqb, ltb, ℤ, pos, negsuc, neg_ℤ, length, get_or}
use Rattle.std.specs.Bool.{beq}
use Rattle.model.specs.Bits.{odd}

-- whether two numbers are the same
unfoldable pub same_number : ℤ → ℤ → Bool
same_number (pos x) (pos y) = eqb x y
same_number (pos x) (negsuc y) = false
same_number (negsuc x) (pos y) = false
same_number (negsuc x) (negsuc y) = eqb x y

-- whether a number stands in a list
unfoldable pub among : ℤ → List ℤ → Bool
among z [] = false
among z (y ∷ ys) = same_number z y || among z ys

-- the assignment that the numbers ys are: variable v is true where it stands plain. What is not said is false
unfoldable pub assignment_of : List ℤ → ℕ → Bool
assignment_of ys v = among (pos v) ys

-- v is missing, or given both signs
unfoldable pub unclear : List ℤ → ℕ → Bool
unclear ys v = beq (among (pos v) ys) (among (neg_ℤ (pos v)) ys)

-- 1 where v stands plain and 2 where it stands negated: 0 where it is missing, 3 with both signs
unfoldable pub signs_of : List ℤ → ℕ → ℕ
signs_of ys v = cond (among (pos v) ys) 1 0 + cond (among (neg_ℤ (pos v)) ys) 2 0

-- Entries of a table of signs, 0 to the greatest variable that there may be (RULES V6)
abbrev pub table_size : ℕ
table_size = 1198082

-- a table that has the signs of every variable it has an entry for
pub record SignsOf (ys : List ℤ) (table : List ℕ) : Type 0 where
  pub full : length table ≡ table_size
  pub has : (v : ℕ) → v < table_size → get_or table v 0 ≡ signs_of ys v

-- the entry of v, 0 past the table; and what it says of v: bit 0; none or both signs
abbrev pub entry_in : List ℕ → ℕ → ℕ
entry_in table v = cond (ltb v table_size) (get_or table v 0) 0

unfoldable pub true_in : List ℕ → ℕ → Bool
true_in table v = odd (entry_in table v)

unfoldable pub unclear_in : List ℕ → ℕ → Bool
unclear_in table v = eqb (entry_in table v) 0 || eqb (entry_in table v) 3
