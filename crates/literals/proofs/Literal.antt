-- Laws of specs/Lit.antt: which literal a number stands for, negation, and back to the number; and a code in a frame by cases.
-- No contract cites this file.
use Prim.Native.Nat.{ℕ, zero, suc, ◌+◌, ◌/◌, ◌%◌, ◌≤◌, ◌<◌}
use mathlib.Core.Path.{◌≡◌, refl, ◌∙◌}
use mathlib.Core.Bool.{false}
use mathlib.Core.List.{[], ◌∷◌}
use native.Mathlib.Nat.{not-suc-le-zero}
use native.Mathlib.Omega.{arith}
use borrow.Author.Tests.{le-ltb, eq-eqb, ne_eqb}
use lib.Dec.{eqb}
use lib.IntN.{ℤ, pos, negsuc, neg_ℤ, nat_abs, ◌-ℤ◌, +ℤ_idl}
use mir.Syntax.{w32}
use mir.Val.{SFits, to_z, of_z}
use mir.ValLaws.{to_z-of_z, to_z_pos}
use Rattle.model.specs.Bits.{odd}
use Rattle.model.specs.Clauses.{known, plus, neg}
use Rattle.model.specs.Variables.{code_at}
use Rattle.model.specs.Numbers.{literal_number, kept_of, is_true}
use Rattle.literals.specs.Lit.{literal_at, HasNumber}

-- the machine's number of a variable
pub variable-is : (b w : ℕ) → HasNumber b w → to_z w32 (b + w) ≡ pos (b + w)
variable-is b w h = to_z_pos w32 (b + w) h.bounded

-- codes 0 and 1 are the constants
pub code_at-constant : (b x : ℕ) → x < 2 → code_at b x ≡ known (eqb x 1)
unfolding code_at odd
code_at-constant b zero h = refl
code_at-constant b (suc zero) h = refl
code_at-constant b (suc (suc x)) h = absurd (omega arith)

-- the lowest bit of another inverts its wire
pub code_at-inverted : (b x : ℕ) → 2 ≤ x → x % 2 ≡ 1 → code_at b x ≡ neg (plus (b + x / 2))
unfolding code_at odd neg
code_at-inverted b x h o = rw (le-ltb x 2 h, eq-eqb (x % 2) 1 o)

pub code_at-wire : (b x : ℕ) → 2 ≤ x → (x % 2 ≡ 1 → ⊥) → code_at b x ≡ plus (b + x / 2)
unfolding code_at odd
code_at-wire b x h o = rw (le-ltb x 2 h, ne_eqb (x % 2) 1 o)

-- turning the sign negates the literal
pub literal_at-neg : (z : ℤ) → 1 ≤ nat_abs z → literal_at (neg_ℤ z) ≡ neg (literal_at z)
unfolding literal_at neg
literal_at-neg (pos zero) h = absurd (not-suc-le-zero h)
literal_at-neg (pos (suc v)) h = refl
literal_at-neg (negsuc v) h = refl

-- it is no constant
pub is_true-literal_at : (z : ℤ) → is_true (literal_at z) ≡ false
unfolding literal_at is_true
is_true-literal_at (pos v) = refl
is_true-literal_at (negsuc v) = refl

-- the number of the literal that a number stands for is that number
pub literal_number-at : (z : ℤ) → literal_number (literal_at z) ≡ z
unfolding literal_at
literal_number-at (pos v) = refl
literal_number-at (negsuc v) = refl

-- which is what is written of it
pub kept-literal_at : (z : ℤ) → kept_of (literal_at z) ≡ z ∷ []
unfolding literal_at kept_of
kept-literal_at (pos v) = refl
kept-literal_at (negsuc v) = refl

-- a turned sign is as far from 0
pub nat_abs-neg : (z : ℤ) → nat_abs (neg_ℤ z) ≡ nat_abs z
nat_abs-neg (pos zero) = refl
nat_abs-neg (pos (suc n)) = refl
nat_abs-neg (negsuc n) = refl

-- a clause number fits an i32
pub fits : (z : ℤ) → nat_abs z < 2147483648 → SFits w32 z
fits (pos n) h = record { sfits = h }
fits (negsuc n) h = record { sfits = omega arith }

-- the machine's 0 - z is z with its sign turned
pub minus-fits : (z : ℤ) → nat_abs z < 2147483648 → SFits w32 (pos 0 -ℤ to_z w32 (of_z w32 z))
minus-fits z h = rw (to_z-of_z w32 z (fits z h), +ℤ_idl (neg_ℤ z)) (fits (neg_ℤ z) (rw nat_abs-neg h))

pub minus_is : (z : ℤ) → nat_abs z < 2147483648 → to_z w32 (of_z w32 (pos 0 -ℤ to_z w32 (of_z w32 z))) ≡ neg_ℤ z
minus_is z h = to_z-of_z w32 _ (minus-fits z h) ∙ rw (to_z-of_z w32 z (fits z h), +ℤ_idl (neg_ℤ z))
