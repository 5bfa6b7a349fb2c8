-- Laws of specs/Bits.antt: a number and its bits. No contract cites this file.
use Prim.Native.Nat.{ℕ, zero, suc, ◌+◌, ◌-◌, ◌*◌, ◌/◌, ◌%◌, ◌^◌, ◌<◌}
use mathlib.Core.Path.{◌≡◌, refl, sym, ap, ap₂, ◌∙◌}
use mathlib.Core.Bool.{Bool, true, false, cond}
use mathlib.Core.Logic.{⊎_elim, by_cases}
use native.Mathlib.Nat.{add-zero, le_of_suc-le-suc, eq-or-lt_of_le, pow-suc, pow-succ', div-one, div-eq_of_lt, div-div-eq-div-mul, add-mul-div_right, add-div_right, add-mul-mod_self_left}
use native.Mathlib.Decide.{ℕ_discrete}
use native.Mathlib.Omega.{arith}
use lib.Dec.{eqb}
use borrow.Author.Tests.{eq-eqb, ne_eqb}
use lib.Pow.{pow_pos, pow-add}
use Rattle.model.specs.Bits.{odd, bit, from_bits}

-- an even number added leaves odd as it is
odd-add-even : (x y : ℕ) → odd (x + 2 * y) ≡ odd x
unfolding odd
odd-add-even x y = ap (λ (r : ℕ). eqb r 1) (add-mul-mod_self_left x 2 y)

-- bit m of a number of m bits, with 2^m added or not, says whether it was added
bit_added : (m x : ℕ) (b : Bool) → x < 2 ^ m → bit (x + cond b (2 ^ m) 0) m ≡ b
unfolding bit odd
bit_added m x true h = rw (add-div_right x (pow_pos m), div-eq_of_lt h)
bit_added m x false h = rw (add-zero, div-eq_of_lt h)

-- a lower bit does not change where 2^m is added
bit-lower : (m x : ℕ) (b : Bool) (t : ℕ) → t < m → bit (x + cond b (2 ^ m) 0) t ≡ bit x t
unfolding bit
bit-lower m x true t h =
    let d : ℕ = m - t - 1 in
    let e : m ≡ suc d + t = omega arith in
    let power : 2 ^ m ≡ 2 * 2 ^ d * 2 ^ t = ap (λ (k : ℕ). 2 ^ k) e ∙ pow-add 2 (suc d) t ∙ rw pow-succ' in
    rw (power, add-mul-div_right x (2 * 2 ^ d) (pow_pos t)) (odd-add-even (x / 2 ^ t) (2 ^ d))
bit-lower m x false t h = rw add-zero

-- m bits make a number below 2^m
pub from_bits-below : (m : ℕ) (f : ℕ → Bool) → from_bits m f < 2 ^ m
unfolding from_bits
from_bits-below zero f = omega arith
from_bits-below (suc m) f = rw pow-suc (with-bit (f m) (from_bits-below m f))
  where
    with-bit : (b : Bool) → from_bits m f < 2 ^ m → from_bits m f + cond b (2 ^ m) 0 < 2 ^ m * 2
    with-bit true h = omega arith
    with-bit false h = omega arith

-- and they are the bits of that number
pub bit-from_bits : (m : ℕ) (f : ℕ → Bool) (t : ℕ) → t < m → bit (from_bits m f) t ≡ f t
unfolding from_bits
bit-from_bits zero f t h = absurd (omega arith)
bit-from_bits (suc m) f t h =
    ⊎_elim
    (λ (e : t ≡ m). rw e (bit_added m (from_bits m f) (f m) (from_bits-below m f)))
    (λ (l : t < m). bit-lower m (from_bits m f) (f m) t l ∙ bit-from_bits m f t l)
    (eq-or-lt_of_le (le_of_suc-le-suc h))

-- equal bits make equal numbers
pub from_bits-same : (m : ℕ) (f g : ℕ → Bool) → ((t : ℕ) → t < m → f t ≡ g t) → from_bits m f ≡ from_bits m g
unfolding from_bits
from_bits-same zero f g h = refl
from_bits-same (suc m) f g h =
    ap₂ (λ (x : ℕ) (b : Bool). x + cond b (2 ^ m) 0) (from_bits-same m f g (λ t l. h t (omega arith))) (h m (omega arith))

-- a number is that of its bits
times-halved : (p q h : ℕ) → (b : Bool) → q ≡ 2 * h + cond b 1 0 → cond b p 0 + p * 2 * h ≡ p * q
times-halved p q h true e = rw e (omega arith)
times-halved p q h false e = rw e (omega arith)

halved : (q : ℕ) → q ≡ 2 * (q / 2) + cond (odd q) 1 0
unfolding odd
halved q =
    by_cases (ℕ_discrete (q % 2) 1)
    (λ e. rw (eq-eqb (q % 2) 1 e) (omega arith))
    (λ e. rw (ne_eqb (q % 2) 1 e) (omega arith))

bits-and-rest : (m x : ℕ) → from_bits m (bit x) + 2 ^ m * (x / 2 ^ m) ≡ x
unfolding from_bits bit
bits-and-rest zero x = rw div-one (omega arith)
bits-and-rest (suc m) x =
    rw (pow-suc, ← div-div-eq-div-mul x (2 ^ m) 2)
    (omega (arith, times-halved (2 ^ m) (x / 2 ^ m) (x / 2 ^ m / 2) (odd (x / 2 ^ m)) (halved (x / 2 ^ m)), bits-and-rest m x))

pub from_bits-bit : (m x : ℕ) → x < 2 ^ m → from_bits m (bit x) ≡ x
from_bits-bit m x h = sym (rw (div-eq_of_lt h) (omega arith)) ∙ bits-and-rest m x
