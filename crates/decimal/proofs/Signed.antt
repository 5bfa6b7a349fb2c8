-- Laws of `signed_digits`, and of a signed number of 32 bits without its sign and as it is read back. No contract cites this file.
use Prim.Native.Nat.{suc, ◌≤◌}
use mathlib.Core.Path.{◌≡◌}
use native.Mathlib.Omega.{arith}
use lib.IntN.{ℤ, pos, negsuc, nat_abs}
use lib.ListN.{length}
use mir.Syntax.{w32}
use mir.Val.{Fits, SFits, to_z, of_z}
use mir.ValLaws.{to_z-of_z}
use Rattle.decimal.specs.Digits.{signed_digits}
use Rattle.decimal.proofs.Digits.{length-digits-ten}

-- a number of 32 bits
module _ (z : ℤ) (f : SFits w32 z) where
  -- without its sign it fits 32 bits
  pub nat_abs-fits : Fits w32 (nat_abs z)
  nat_abs-fits = by_sign z f
    where
      by_sign : (z : ℤ) → SFits w32 z → Fits w32 (nat_abs z)
      by_sign (pos n) f = record { fits = omega (arith, f.sfits) }
      by_sign (negsuc n) f = record { fits = omega (arith, f.sfits) }

  -- what is read back of it is the number
  pub read_back : to_z w32 (of_z w32 z) ≡ z
  read_back = to_z-of_z w32 z f

-- a signed number of 32 bits takes at most eleven bytes
pub length-signed_digits : (z : ℤ) → SFits w32 z → length (signed_digits z) ≤ 11
unfolding signed_digits
length-signed_digits (pos n) f = omega (arith, length-digits-ten n (nat_abs-fits (pos n) f).fits)
length-signed_digits (negsuc n) f = omega (arith, length-digits-ten (suc n) (nat_abs-fits (negsuc n) f).fits)
