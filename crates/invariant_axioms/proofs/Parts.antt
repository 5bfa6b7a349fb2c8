-- The parts of a number of an invariant: whether it ends a clause, and its sign. No contract cites this file.
use Prim.Native.Nat.{zero, suc, ◌≤◌}
use mathlib.Core.Path.{◌≡◌, refl}
use mathlib.Core.Bool.{true, false}
use native.Mathlib.Omega.{arith}
use lib.IntN.{ℤ, pos, negsuc}
use Rattle.text_writer.specs.Signed.{parts_of}
use Rattle.invariant_terms.specs.Walk.{is_end}

pub ends : (z : ℤ) → (parts_of z).value ≡ 0 → is_end z ≡ true
unfolding is_end
ends (pos zero) e = refl
ends (pos (suc v)) e = absurd (omega (arith, e))
ends (negsuc v) e = absurd (omega (arith, e))

pub goes_on : (z : ℤ) → ((parts_of z).value ≡ 0 → ⊥) → is_end z ≡ false
unfolding is_end
goes_on (pos zero) h = absurd (h refl)
goes_on (pos (suc v)) h = refl
goes_on (negsuc v) h = refl

pub sign-most : (z : ℤ) → (parts_of z).sign ≤ 1
sign-most (pos v) = omega arith
sign-most (negsuc v) = omega arith
