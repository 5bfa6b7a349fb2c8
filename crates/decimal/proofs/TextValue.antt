-- Laws of specs/TextValue.antt: what is written reads back as the same number (`number_in-digits`), what is read is the text of its
-- number (`digits-number_in`), and any other text is none (`number_in-other`). No contract cites this file.
use Prim.Native.Nat.{ℕ, zero, suc, ◌+◌, ◌-◌, ◌*◌, ◌/◌, ◌%◌, ◌^◌, ◌≤◌, ◌<◌}
use mathlib.Core.Path.{◌≡◌, refl, sym, ap, ap₂, ◌∙◌}
use mathlib.Core.Bool.{Bool, true, false, cond, ◌&&◌, true≢false, false≢true}
use mathlib.Core.List.{List, [], ◌∷◌, ◌++◌, append_assoc, append-nil}
use native.Mathlib.Omega.{arith}
use lib.Dec.{eqb, ltb, leb}
use native.Mathlib.Numerals.{add-one}
use lib.Pointwise.{pointwise}
use lib.ListN.{length, get_or, drop, drop_of_length-le, get_or-append}
use lib.Seq.{drop-cons}
use borrow.Author.Tests.{lt-ltb, ltb-true, le-leb, lt-leb, leb-true, eq-eqb, eqb-true}
use Rattle.std.specs.Prelude.{Option, Some, None}
use Rattle.model.proofs.Booleans.{and-true}
use Rattle.decimal.specs.Digits.{digit, digits}
use Rattle.decimal.specs.TextValue.{same_text, value_after, number_in}
use Rattle.decimal.proofs.Digits.{digits-single, digits-snoc, digits-behind, by-tenths, length-digits-some}

-- the computed equality of texts
pub same_text-refl : (s : List ℕ) → same_text s s ≡ true
unfolding same_text
same_text-refl [] = refl
same_text-refl (c ∷ s) = rw (eq-eqb c c refl, same_text-refl s)

pub same_text-true : (s t : List ℕ) → same_text s t ≡ true → s ≡ t
unfolding same_text
same_text-true [] [] h = refl
same_text-true [] (d ∷ t) h = absurd (false≢true h)
same_text-true (c ∷ s) [] h = absurd (false≢true h)
same_text-true (c ∷ s) (d ∷ t) h =
    let p = (and-true (eqb c d) (same_text s t)).0 h in
    ap₂ (λ x y. x ∷ y) (eqb-true c d p.0) (same_text-true s t p.1)

-- what `==` says of two texts
pub same_text-pointwise : (s t : List ℕ) → pointwise eqb s t ≡ same_text s t
unfolding same_text
same_text-pointwise [] [] = refl
same_text-pointwise [] (d ∷ t) = refl
same_text-pointwise (c ∷ s) [] = refl
same_text-pointwise (c ∷ s) (d ∷ t) = ap (λ (b : Bool). eqb c d && b) (same_text-pointwise s t)

-- whether a byte is a digit, and whether all bytes of a text are
unfoldable pub is_digit : ℕ → Bool
is_digit c = leb 48 c && leb c 57

unfoldable pub all_digits : List ℕ → Bool
all_digits [] = true
all_digits (c ∷ s) = is_digit c && all_digits s

is_digit-digit : (d : ℕ) → d < 10 → is_digit (digit d) ≡ true
unfolding is_digit
is_digit-digit d h = rw (le-leb 48 (digit d) (omega arith), le-leb (digit d) 57 (omega arith))

all_digits-append : (s t : List ℕ) → all_digits (s ++ t) ≡ (all_digits s && all_digits t)
unfolding all_digits
all_digits-append [] t = refl
all_digits-append (c ∷ s) t = with_first (is_digit c) (all_digits-append s t)
  where
    with_first : (b : Bool) → all_digits (s ++ t) ≡ (all_digits s && all_digits t) → (b && all_digits (s ++ t)) ≡ (b && all_digits s && all_digits t)
    with_first true h = h
    with_first false h = refl

-- all bytes of a number's digits are digits
pub all_digits-digits : (x : ℕ) → all_digits (digits x) ≡ true
unfolding all_digits
all_digits-digits =
    by-tenths (λ x. all_digits (digits x) ≡ true) (λ x s. rw (digits-single x s, is_digit-digit x s))
    (λ x g h. rw (digits-snoc x g, all_digits-append, h, is_digit-digit (x % 10) (omega arith)))

-- each by itself
pub digit_at : (x i : ℕ) → i < length (digits x) → (48 ≤ get_or (digits x) i 0) × (get_or (digits x) i 0 ≤ 57)
unfolding all_digits is_digit
digit_at x i h = go (digits x) i h (all_digits-digits x)
  where
    go : (s : List ℕ) (i : ℕ) → i < length s → all_digits s ≡ true → (48 ≤ get_or s i 0) × (get_or s i 0 ≤ 57)
    go [] i l h = absurd (omega arith)
    go (c ∷ s) zero l h =
        let first = ((and-true (is_digit c) (all_digits s)).0 h).0 in
        let both = (and-true (leb 48 c) (leb c 57)).0 first in
        (leb-true 48 c both.0, leb-true c 57 both.1)
    go (c ∷ s) (suc i) l h = go s i (omega arith) ((and-true (is_digit c) (all_digits s)).0 h).1

-- one byte more behind a text
value_after-snoc : (v : ℕ) (s : List ℕ) (c : ℕ) → value_after v (s ++ c ∷ []) ≡ value_after v s * 10 + (c - 48)
unfolding value_after
value_after-snoc v [] c = refl
value_after-snoc v (b ∷ s) c = value_after-snoc (v * 10 + (b - 48)) s c

-- the value of a number's digits is the number
pub value_after-digits : (x : ℕ) → value_after 0 (digits x) ≡ x
unfolding value_after
value_after-digits =
    by-tenths (λ x. value_after 0 (digits x) ≡ x) (λ x s. rw (digits-single x s) (omega arith))
    (λ x g h. rw (digits-snoc x g, value_after-snoc, h) (omega arith))

-- the first digit of a number that is not 0 is not 0
pub first-digit : (x : ℕ) → 0 < x → 48 < get_or (digits x) 0 0
first-digit =
    by-tenths (λ x. 0 < x → 48 < get_or (digits x) 0 0) (λ x s p. rw (digits-single x s) (omega arith))
    (λ x g h p. rw (digits-snoc x g, get_or-append (digits (x / 10)) (digit (x % 10) ∷ []) 0 0 (length-digits-some (x / 10))) (h (omega arith)))

-- and that of any number is a digit
pub first-is-digit : (x : ℕ) → 48 ≤ get_or (digits x) 0 0
first-is-digit zero = rw (digits-single 0 (omega arith)) (omega arith)
first-is-digit (suc x) = omega (arith, first-digit (suc x) (omega arith))

-- no number has a digit 0 before others
no-leading-zero : (x : ℕ) → get_or (digits x) 0 0 ≡ 48 → length (digits x) ≡ 1
no-leading-zero zero h = rw (digits-single 0 (omega arith))
no-leading-zero (suc x) h = absurd (omega (arith, first-digit (suc x) (omega arith)))

-- a text of digits behind the digits of a number that is not 0
digits-value_after : (v : ℕ) (s : List ℕ) → 0 < v → all_digits s ≡ true → digits (value_after v s) ≡ digits v ++ s
unfolding value_after all_digits is_digit
digits-value_after v [] p h = sym (append-nil (digits v))
digits-value_after v (c ∷ s) p h =
    let q = (and-true (is_digit c) (all_digits s)).0 h in
    let b = (and-true (leb 48 c) (leb c 57)).0 q.0 in
    let l : 48 ≤ c = leb-true 48 c b.0 in
    let u : c ≤ 57 = leb-true c 57 b.1 in
    let e : digit (c - 48) ≡ c = omega arith in
    digits-value_after (v * 10 + (c - 48)) s (omega arith) q.1 ∙ rw (digits-behind v (c - 48) p (omega arith), e, append_assoc)

-- a text of digits with no leading zero is the digits of its value
digits_value : (s : List ℕ) → 0 < length s → all_digits s ≡ true → (1 < length s → get_or s 0 0 ≡ 48 → ⊥) → digits (value_after 0 s) ≡ s
unfolding value_after all_digits is_digit
digits_value [] n h z = absurd (omega arith)
digits_value (c ∷ s) n h z = first s ((and-true (is_digit c) (all_digits s)).0 h).1 z
  where
    bounds : (leb 48 c ≡ true) × (leb c 57 ≡ true)
    bounds = (and-true (leb 48 c) (leb c 57)).0 ((and-true (is_digit c) (all_digits s)).0 h).0

    from_zero : c ≡ 48 + (c - 48)
    from_zero = omega (arith, leb-true 48 c bounds.0)

    is_digit_lem : 0 * 10 + (c - 48) < 10
    is_digit_lem = omega (arith, leb-true c 57 bounds.1)

    single : digits (0 * 10 + (c - 48)) ≡ c ∷ []
    single =
        let e : digit (0 * 10 + (c - 48)) ≡ c = omega (arith, from_zero) in
        digits-single (0 * 10 + (c - 48)) is_digit_lem ∙ ap (λ (d : ℕ). d ∷ []) e

    first : (t : List ℕ) → all_digits t ≡ true → (1 < length (c ∷ t) → c ≡ 48 → ⊥) → digits (value_after (0 * 10 + (c - 48)) t) ≡ c ∷ t
    first [] a z = single
    first (b ∷ t) a z =
        let no_zero : c ≡ 48 → ⊥ = z (omega arith) in
        let l : 48 < c = omega (arith, from_zero) in
        digits-value_after (0 * 10 + (c - 48)) (b ∷ t) (omega arith) a ∙ rw single

-- what is written reads back as the same number
pub number_in-digits : (x : ℕ) → x < 2 ^ 32 → number_in (digits x) ≡ Some x
unfolding number_in
number_in-digits x h = rw (value_after-digits x, same_text-refl, lt-ltb x (2 ^ 32) h)

-- what is read is the text of its number
pub digits-number_in : (s : List ℕ) (x : ℕ) → number_in s ≡ Some x → (s ≡ digits x) × (x < 2 ^ 32)
unfolding number_in
digits-number_in s x h =
    by-test (same_text s (digits (value_after 0 s))) (ltb (value_after 0 s) (2 ^ 32)) refl refl h
  where
    by-test :
        (a b : Bool) → same_text s (digits (value_after 0 s)) ≡ a → ltb (value_after 0 s) (2 ^ 32) ≡ b →
        cond (a && b) (Some (value_after 0 s)) None ≡ Some x → (s ≡ digits x) × (x < 2 ^ 32)
    by-test true true p q h =
        let e : value_after 0 s ≡ x = cc in
        (same_text-true s (digits (value_after 0 s)) p ∙ ap digits e, omega (arith, ltb-true (value_after 0 s) (2 ^ 32) q))
    by-test true false p q h = let z : ◌≡◌ {A = ℕ} 0 1 = cc in absurd (omega arith)
    by-test false b p q h = let z : ◌≡◌ {A = ℕ} 0 1 = cc in absurd (omega arith)

-- a text that is no number's is read as none
pub number_in-other : (s : List ℕ) → ((x : ℕ) → x < 2 ^ 32 → s ≡ digits x → ⊥) → number_in s ≡ None
number_in-other s none = by_answer (number_in s) refl
  where
    by_answer : (r : Option ℕ) → number_in s ≡ r → number_in s ≡ None
    by_answer (Some x) e = absurd (none x (digits-number_in s x e).1 (digits-number_in s x e).0)
    by_answer None e = e

-- What a reader finds in a text, from the left: the tests by which it is no number, and its number.

-- an empty text
pub number_in-empty : (s : List ℕ) → length s ≡ 0 → number_in s ≡ None
number_in-empty s l = number_in-other s (λ x h e. omega (arith, length-digits-some x, ap length e))

-- a zero before other bytes
pub number_in-zero : (s : List ℕ) → 1 < length s → get_or s 0 0 ≡ 48 → number_in s ≡ None
number_in-zero s l z =
    number_in-other s (λ x h e. omega (arith, no-leading-zero x (sym (ap (λ (t : List ℕ). get_or t 0 0) e) ∙ z), ap length e))

-- a byte that is no digit
pub number_in-no-digit : (s : List ℕ) → all_digits s ≡ false → number_in s ≡ None
number_in-no-digit s n =
    number_in-other s (λ x h e. true≢false (sym (all_digits-digits x) ∙ sym (ap all_digits e) ∙ n))

-- a value above the greatest
pub number_in-above : (s : List ℕ) → 2 ^ 32 ≤ value_after 0 s → number_in s ≡ None
number_in-above s l =
    number_in-other s (λ x h e. omega (arith, ap (value_after 0) e, value_after-digits x))

-- digits with no leading zero, of a value that fits
pub number_in-value :
    (s : List ℕ) → 0 < length s → all_digits s ≡ true → (1 < length s → get_or s 0 0 ≡ 48 → ⊥) → value_after 0 s < 2 ^ 32 →
    number_in s ≡ Some (value_after 0 s)
number_in-value s n h z l =
    ap number_in (sym (digits_value s n h z)) ∙ number_in-digits (value_after 0 s) l

-- the byte at i is taken in: the value of the whole stays the same
pub value_after-next :
    (s : List ℕ) (i v : ℕ) → i < length s → value_after (v * 10 + (get_or s i 0 - 48)) (drop (i + 1) s) ≡ value_after v (drop i s)
unfolding value_after
value_after-next s i v h = rw (add-one, drop-cons s i 0 h)

-- and the rest is all digits where the byte and the rest are
pub all_digits-next : (s : List ℕ) (i : ℕ) → i < length s → all_digits (drop i s) ≡ (is_digit (get_or s i 0) && all_digits (drop (i + 1) s))
unfolding all_digits
all_digits-next s i h = rw (add-one, drop-cons s i 0 h)

-- nothing is left at the end of a text
pub value_after-end : (s : List ℕ) (i v : ℕ) → length s ≤ i → value_after v (drop i s) ≡ v
unfolding value_after
value_after-end s i v h = rw (drop_of_length-le s h)

pub all_digits-end : (s : List ℕ) (i : ℕ) → length s ≤ i → all_digits (drop i s) ≡ true
unfolding all_digits
all_digits-end s i h = rw (drop_of_length-le s h)

-- a byte outside '0' to '9' is no digit, one inside is
pub is_digit-outside : (c : ℕ) → (48 ≤ c → 57 < c) → is_digit c ≡ false
unfolding is_digit
is_digit-outside c h = by-test (leb 48 c) refl
  where
    by-test : (b : Bool) → leb 48 c ≡ b → (b && leb c 57) ≡ false
    by-test true e = lt-leb c 57 (h (leb-true 48 c e))
    by-test false e = refl

pub is_digit-inside : (c : ℕ) → 48 ≤ c → c ≤ 57 → is_digit c ≡ true
unfolding is_digit
is_digit-inside c l u = rw (le-leb 48 c l, le-leb c 57 u)
