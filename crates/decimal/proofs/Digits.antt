-- Laws of specs/Digits.antt: the digits of a number, their count and their value. No contract cites this file.
use Prim.Native.Nat.{ℕ, zero, suc, ◌+◌, ◌*◌, ◌/◌, ◌%◌, ◌^◌, ◌≤◌, ◌<◌}
use mathlib.Core.Path.{◌≡◌, refl, ◌∙◌}
use mathlib.Core.Bool.{Bool, true, false}
use mathlib.Core.Logic.{◌⊎◌, inl, inr, ⊎_elim}
use mathlib.Core.List.{[], ◌∷◌, ◌++◌}
use native.Mathlib.Nat.{pow-suc, one-le-pow, le-div_iff_mul-le, div-lt_iff_lt-mul}
use native.Mathlib.Omega.{arith}
use lib.Dec.{ltb}
use lib.ListN.{length, length-append, length-replicate}
use borrow.Author.Tests.{lt-ltb, le-ltb, ltb-true, ltb-false}
use Rattle.decimal.specs.Digits.{digit, digits_within, digits, field}

-- a number is below ten, or has a tenth
below-ten : (x : ℕ) → (x < 10) ⊎ (10 ≤ x)
below-ten x = by-test (ltb x 10) refl
  where
    by-test : (b : Bool) → ltb x 10 ≡ b → (x < 10) ⊎ (10 ≤ x)
    by-test true e = inl (ltb-true x 10 e)
    by-test false e = inr (ltb-false x 10 e)

-- any two counts of divisions above x give the same digits
digits_within-enough : (n m x : ℕ) → x < n → x < m → digits_within n x ≡ digits_within m x
unfolding digits_within
digits_within-enough zero m x h l = absurd (omega arith)
digits_within-enough (suc n) zero x h l = absurd (omega arith)
digits_within-enough (suc n) (suc m) x h l =
    ⊎_elim
    (λ (s : x < 10). rw (lt-ltb x 10 s))
    (λ (g : 10 ≤ x). rw (le-ltb x 10 g, digits_within-enough n m (x / 10) (omega arith) (omega arith)))
    (below-ten x)

-- a number below ten is one digit
pub digits-single : (x : ℕ) → x < 10 → digits x ≡ digit x ∷ []
unfolding digits digits_within
digits-single x h =
    let e : x % 10 ≡ x = omega arith in
    rw (lt-ltb x 10 h, e)

-- any other is the digits of its tenth, and one digit more
pub digits-snoc : (x : ℕ) → 10 ≤ x → digits x ≡ digits (x / 10) ++ digit (x % 10) ∷ []
unfolding digits digits_within
digits-snoc x h = rw (le-ltb x 10 h, digits_within-enough x (suc (x / 10)) (x / 10) (omega arith) (omega arith))

-- the same, put together: a digit d behind the digits of a number that is not 0
pub digits-behind : (v d : ℕ) → 0 < v → d < 10 → digits (v * 10 + d) ≡ digits v ++ digit d ∷ []
digits-behind v d h l =
    let q : (v * 10 + d) / 10 ≡ v = omega arith in
    let r : (v * 10 + d) % 10 ≡ d = omega arith in
    digits-snoc (v * 10 + d) (omega arith) ∙ rw (q, r)

-- what holds of the numbers below ten, and of a number where it holds of its tenth, holds of every number
module _ (P : ℕ → Type 0) (single : (x : ℕ) → x < 10 → P x) (more : (x : ℕ) → 10 ≤ x → P (x / 10) → P x) where
  by-tenths-below : (n x : ℕ) → x < n → P x
  by-tenths-below zero x h = absurd (omega arith)
  by-tenths-below (suc n) x h =
      ⊎_elim (single x) (λ (g : 10 ≤ x). more x g (by-tenths-below n (x / 10) (omega arith))) (below-ten x)

  pub by-tenths : (x : ℕ) → P x
  by-tenths x = by-tenths-below (suc x) x (omega arith)

-- every number has a digit
pub length-digits-some : (x : ℕ) → 0 < length (digits x)
length-digits-some =
    by-tenths (λ x. 0 < length (digits x)) (λ x s. rw (digits-single x s) (omega arith))
    (λ x g h. rw (digits-snoc x g, length-append) (omega arith))

-- a number below 10^n has at most n digits, where n is not 0
pub length-digits-most : (n x : ℕ) → 0 < n → x < 10 ^ n → length (digits x) ≤ n
length-digits-most zero x p h = absurd (omega arith)
length-digits-most (suc zero) x p h = rw (digits-single x h) (omega arith)
length-digits-most (suc (suc n)) x p h =
    ⊎_elim (λ (s : x < 10). rw (digits-single x s) (omega arith))
    (λ (g : 10 ≤ x).
    let t : length (digits (x / 10)) ≤ suc n =
    length-digits-most (suc n) (x / 10) (omega arith) ((div-lt_iff_lt-mul (omega arith)).1 (rw pow-suc at h)) in
    rw (digits-snoc x g, length-append) (omega arith))
    (below-ten x)

-- a number from 10^n on has more than n
pub length-digits-least : (n x : ℕ) → 10 ^ n ≤ x → n < length (digits x)
length-digits-least zero x h = length-digits-some x
length-digits-least (suc n) x h =
    let p : 1 ≤ 10 ^ n = one-le-pow n 10 (omega arith) in
    let l : 10 ^ n * 10 ≤ x = rw pow-suc at h in
    let t : n < length (digits (x / 10)) = length-digits-least n (x / 10) ((le-div_iff_mul-le (omega arith)).1 l) in
    rw (digits-snoc x (omega arith), length-append) (omega arith)

-- a number of 32 bits has at most ten digits
pub length-digits-ten : (x : ℕ) → x < 2 ^ 32 → length (digits x) ≤ 10
length-digits-ten x h = length-digits-most 10 x (omega arith) (omega arith)

-- its field has ten columns
pub length-field : (x : ℕ) → x < 2 ^ 32 → length (field x) ≡ 10
unfolding field
length-field x h = simp (length-append, length-replicate) (omega (arith, length-digits-ten x h))
