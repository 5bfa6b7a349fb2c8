-- Laws of specs/Difference.antt: the bytes of a number are read back, and are as many as its bits need. No contract cites this file.
use Prim.Native.Nat.{ℕ, zero, suc, ◌+◌, ◌-◌, ◌*◌, ◌/◌, ◌%◌, ◌^◌, ◌≤◌, ◌<◌}
use mathlib.Core.Path.{◌≡◌, sym, ◌∙◌, ap}
use mathlib.Core.Logic.{by_cases}
use mathlib.Core.List.{List, [], ◌∷◌, ◌++◌}
use native.Mathlib.Decide.{dec_lt}
use native.Mathlib.Omega.{arith}
use lib.Count.{count_leading_zeros, leading_length}
use lib.ListN.{length}
use lib.Pow.{pow-add, pow_mono}
use borrow.Author.Tests.{lt-ltb, le-ltb}
use Rattle.aiger_difference.specs.Difference.{bytes_within, difference_bytes}
use Rattle.aiger_difference.proofs.Decoding.{difference_in, behind_difference}

-- any two counts of divisions above x give the same bytes
bytes_within-enough : (n m x : ℕ) → x < n → x < m → bytes_within n x ≡ bytes_within m x
unfolding bytes_within
bytes_within-enough zero m x h l = absurd (omega arith)
bytes_within-enough (suc n) zero x h l = absurd (omega arith)
bytes_within-enough (suc n) (suc m) x h l =
    by_cases (dec_lt x 128)
    (λ s. rw (lt-ltb x 128 s))
    (λ s. rw (le-ltb x 128 (omega arith), bytes_within-enough n m (x / 128) (omega arith) (omega arith)))

-- a number below 128 is one byte
pub bytes-single : (x : ℕ) → x < 128 → difference_bytes x ≡ x ∷ []
unfolding difference_bytes bytes_within
bytes-single x h = rw (lt-ltb x 128 h)

-- any other is a byte from 128 on, and those of what its lowest seven bits leave
pub bytes-more : (x : ℕ) → 128 ≤ x → difference_bytes x ≡ (128 + x % 128) ∷ difference_bytes (x / 128)
unfolding difference_bytes bytes_within
bytes-more x h = rw (le-ltb x 128 h, bytes_within-enough x (suc (x / 128)) (x / 128) (omega arith) (omega arith))

-- what holds of the numbers below 128, and of a number where it holds of what its lowest seven bits leave, holds of every number
module _ (P : ℕ → Type 0) (single : (x : ℕ) → x < 128 → P x) (more : (x : ℕ) → 128 ≤ x → P (x / 128) → P x) where
  by-bytes-below : (n x : ℕ) → x < n → P x
  by-bytes-below zero x h = absurd (omega arith)
  by-bytes-below (suc n) x h =
      by_cases (dec_lt x 128) (single x) (λ s. more x (omega arith) (by-bytes-below n (x / 128) (omega arith)))

  pub by_bytes : (x : ℕ) → P x
  by_bytes x = by-bytes-below (suc x) x (omega arith)

-- a number is read back, whatever stands behind it
pub difference-read : (s : List ℕ) (x : ℕ) → difference_in (difference_bytes x ++ s) ≡ x
unfolding difference_in
difference-read s =
    by_bytes (λ x. difference_in (difference_bytes x ++ s) ≡ x) (λ x h. rw (bytes-single x h, lt-ltb x 128 h))
    (λ x h back. rw (bytes-more x h, le-ltb (128 + x % 128) 128 (omega arith), back) (omega arith))

pub difference-behind : (s : List ℕ) (x : ℕ) → behind_difference (difference_bytes x ++ s) ≡ s
unfolding behind_difference
difference-behind s =
    by_bytes (λ x. behind_difference (difference_bytes x ++ s) ≡ s) (λ x h. rw (bytes-single x h, lt-ltb x 128 h))
    (λ x h back. rw (bytes-more x h, le-ltb (128 + x % 128) 128 (omega arith)) back)

-- a number of m bits has as many bytes as sevens are begun in m
bits-bytes : (x m : ℕ) → 0 < m → x < 2 ^ m → 2 ^ m ≤ 2 * x + 1 → length (difference_bytes x) ≡ (m + 6) / 7
bits-bytes =
    by_bytes (λ x. (m : ℕ) → 0 < m → x < 2 ^ m → 2 ^ m ≤ 2 * x + 1 → length (difference_bytes x) ≡ (m + 6) / 7)
    (λ x h m p b l.
    by_cases (dec_lt m 8) (λ s. rw (bytes-single x h) (omega arith)) (λ s. absurd (omega (arith, pow_mono {i = 8} {j = m} (omega arith)))))
    (λ x h later m p b l.
    by_cases (dec_lt m 8) (λ s. absurd (omega (arith, pow_mono {i = m} {j = 7} (omega arith))))
    (λ s.
    let e : m - 7 + 7 ≡ m = omega arith in
    let split : 2 ^ m ≡ 2 ^ (m - 7) * 128 = ap (λ (k : ℕ). 2 ^ k) (sym e) ∙ pow-add 2 (m - 7) 7 in
    let rest = later (m - 7) (omega arith) (omega (arith, split)) (omega (arith, split)) in
    rw (bytes-more x h) (omega (arith, rest))))

-- so of 32 bits those behind the leading zeros count; zero has one byte
pub zeros-bytes : (x : ℕ) → 0 < x → x < 2 ^ 32 → length (difference_bytes x) ≡ (38 - count_leading_zeros 32 x) / 7
zeros-bytes x p h =
    let bits = leading_length 32 x h in
    by_cases (dec_lt 0 bits.0)
    (λ m. bits-bytes x bits.0 m bits.2 bits.3 ∙ omega (arith, bits.1))
    (λ m. absurd (omega (arith, bits.2, pow_mono {i = bits.0} {j = 0} (omega arith))))

-- a number has a byte
pub length-bytes-some : (x : ℕ) → 0 < length (difference_bytes x)
length-bytes-some =
    by_bytes (λ x. 0 < length (difference_bytes x)) (λ x h. rw (bytes-single x h) (omega arith)) (λ x h some. rw (bytes-more x h) (omega arith))

-- where it has no other, it is below 128
pub single-below : (x : ℕ) → length (difference_bytes x) ≤ 1 → x < 128
single-below x h =
    by_cases (dec_lt x 128) (λ s. s) (λ s. absurd (omega (arith, ap length (bytes-more x (omega arith)), length-bytes-some (x / 128))))

pub more-from : (x : ℕ) → 1 < length (difference_bytes x) → 128 ≤ x
more-from x h = by_cases (dec_lt x 128) (λ s. absurd (omega (arith, ap length (bytes-single x s)))) (λ s. omega arith)

-- one of fourteen bits has at most two
pub length-bytes-two : (x : ℕ) → x < 16384 → length (difference_bytes x) ≤ 2
length-bytes-two x h =
    by_cases (dec_lt x 128) (λ s. rw (bytes-single x s) (omega arith))
    (λ s. rw (bytes-more x (omega arith), bytes-single (x / 128) (omega arith)) (omega arith))
