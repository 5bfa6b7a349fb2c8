-- The literal that a DIMACS number stands for, and its bounds (RULES W4 and W5); and what a code is in a clause: a constant or such a
-- number. Cited by every function that makes or writes one.
use Rattle.std.specs.Prelude.{ℕ, suc, ◌+◌, ◌≤◌, ◌<◌, Bool, true, false, ℤ, pos, negsuc, nat_abs}
use Rattle.model.specs.Clauses.{Literal, known, plus, minus}
use Rattle.literals.specs.declared.Lit.{Lit}
use Rattle.literals.specs.declared.Term as T
use Rattle.literals.specs.declared.Term.TheVariants.{True, False, Number}

-- a variable, or its negation
unfoldable pub literal_at : ℤ → Literal
literal_at (pos v) = plus v
literal_at (negsuc v) = minus (suc v)

unfoldable pub literal_of : T.Term → Literal
literal_of True = known true
literal_of False = known false
literal_of (Number l) = literal_at l.0

-- whether it is no constant
unfoldable pub is_number : T.Term → Bool
is_number True = false
is_number False = false
is_number (Number l) = true

-- RULES W4: "Neither 0 nor −2,147,483,648 is one; 0 only ends a clause"
pub record IsLit (l : Lit) : Type 0 where
  pub nonzero : 1 ≤ nat_abs l.0
  pub bounded : nat_abs l.0 < 2147483648

-- where it is a number, a clause number
abbrev pub IsTerm : T.Term → Type 0
IsTerm True = Unit {0}
IsTerm False = Unit {0}
IsTerm (Number l) = IsLit l

-- variable b + w, behind variable 1, has a clause number
pub record HasNumber (b w : ℕ) : Type 0 where
  pub after : 1 ≤ b
  pub bounded : b + w < 2147483648
