-- A number put together bit by bit (model/specs/Bits.antt), within 32 bits, or of two words. No contract cites this file.
use Prim.Native.Nat.{ℕ, ◌+◌, ◌-◌, ◌*◌, ◌/◌, ◌%◌, ◌^◌, ◌≤◌, ◌<◌}
use mathlib.Core.Path.{◌≡◌, refl, sym, ◌∙◌, ap}
use mathlib.Core.Bool.{Bool, cond}
use native.Mathlib.Nat.{pow-le-pow_right, one-mul, mod-lt}
use native.Mathlib.Numerals.{add-one}
use native.Mathlib.Omega.{arith}
use lib.Pow.{pow_pos, shl_exact, shr-shr, high, low, field, mod-mod-pow}
use Rattle.model.specs.Bits.{odd, bit, from_bits}

-- no bit, and one bit more
pub from_bits-none : (f : ℕ → Bool) → 0 ≡ from_bits 0 f
unfolding from_bits
from_bits-none f = refl

pub from_bits-next : (t : ℕ) (f : ℕ → Bool) → from_bits t f + cond (f t) (2 ^ t) 0 ≡ from_bits (t + 1) f
unfolding from_bits
from_bits-next t f = rw add-one

-- bit t of 32 is 1 shifted by t
pub bit_shifted : (t : ℕ) → t < 32 → (1 * 2 ^ t) % 4294967296 ≡ 2 ^ t
bit_shifted t h = shl_exact {a = 1} 1 t 32 (omega arith) (omega arith) ∙ one-mul (2 ^ t)

-- two numbers below 2^t add up to 32 bits
pub bit-fits : (t : ℕ) → t < 32 → 2 ^ t ≤ 2147483648
bit-fits t h = pow-le-pow_right {n = 2} (omega arith) {i = t} {j = 31} (omega arith)

-- and a word shifted by as many as another has is within 64
pub one-above : (n : ℕ) → n ≤ 32 → (1 * 2 ^ n) % 18446744073709551616 ≡ 2 ^ n
one-above n h = shl_exact {a = 1} 1 n 64 (omega arith) (omega arith) ∙ one-mul (2 ^ n)

pub word-above : (n x : ℕ) → n ≤ 32 → x < 4294967296 → (x * 2 ^ n) % 18446744073709551616 ≡ x * 2 ^ n
word-above n x h l = shl_exact {a = x} 32 n 64 l (omega arith)

-- the first n bits of a number are those of what is left by 2^n
pub bit-mod : (x n t : ℕ) → t < n → bit (x % 2 ^ n) t ≡ bit x t
unfolding bit odd
bit-mod x n t h =
    let d : ℕ = n - t - 1 in
    let e : n ≡ (d + 1) + t = omega arith in
    rw (e, field x (d + 1) t, mod-mod-pow (x / 2 ^ t) d 1)

-- and the others are those of the quotient
pub bit-div : (x n t : ℕ) → bit (x / 2 ^ n) t ≡ bit x (n + t)
unfolding bit
bit-div x n t = ap odd (shr-shr x n t)

-- so two words in one are told apart
module _ (n first second : ℕ) where
  below : first % 2 ^ n < 2 ^ n
  below = mod-lt first (pow_pos n)

  pub two-first : (t : ℕ) → t < n → bit (second * 2 ^ n + first % 2 ^ n) t ≡ bit first t
  two-first t h =
      sym (bit-mod (second * 2 ^ n + first % 2 ^ n) n t h) ∙ ap (λ x. bit x t) (low second n below) ∙ bit-mod first n t h

  pub two-second : (t : ℕ) → bit (second * 2 ^ n + first % 2 ^ n) (n + t) ≡ bit second t
  two-second t = sym (bit-div (second * 2 ^ n + first % 2 ^ n) n t) ∙ ap (λ x. bit x t) (high second n below)
