-- A number's sign put into a table of signs, and that the table says what its numbers say (RULES Q5 and Q6). Cited by the functions of this crate,
-- and by no public contract.
use Rattle.std.specs.Prelude.{ℕ, ◌+◌, ◌<◌, ◌≡◌, cond, List, [], ◌∷◌, ◌++◌, eqb, ltb, ℤ}
use Rattle.model.specs.Bits.{odd}
use Rattle.answer_signs.specs.Signs.{assignment_of, unclear, table_size, SignsOf, true_in, unclear_in}

-- the table of any numbers became that of one number more
abbrev pub Marked : ℤ → List ℕ → List ℕ → Type 0
Marked z old new = (ys : List ℤ) → SignsOf ys old → SignsOf (ys ++ z ∷ []) new

-- an entry with one sign more: plain where `sign` is 0, else negated
unfoldable pub with_sign : ℕ → ℕ → ℕ
with_sign sign entry = cond (eqb sign 0) (entry + cond (odd entry) 0 1) (entry + cond (ltb entry 2) 2 0)

-- the table says what the numbers say, of every variable that it has an entry for
pub record TableTells : Type 0 where
  pub true-is : (ys : List ℤ) (table : List ℕ) → SignsOf ys table → (v : ℕ) → v < table_size → true_in table v ≡ assignment_of ys v
  pub unclear-is : (ys : List ℤ) (table : List ℕ) → SignsOf ys table → (v : ℕ) → v < table_size → unclear_in table v ≡ unclear ys v
