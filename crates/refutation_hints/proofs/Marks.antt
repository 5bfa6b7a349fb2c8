-- Laws of specs/Marks.antt: slots tell numbers apart, joined outcomes, and one mark more. No contract cites this file.
use Prim.Native.Nat.{ℕ, zero, suc, ◌+◌, ◌-◌, ◌*◌, ◌%◌, ◌^◌, ◌≤◌, ◌<◌}
use mathlib.Core.Path.{◌≡◌, refl, sym, ap, ◌∙◌}
use mathlib.Core.Bool.{Bool, true, false, ◌||◌, false≢true}
use mathlib.Core.List.{List}
use native.Mathlib.Omega.{arith}
use borrow.Author.Tests.{eq-eqb, ne_eqb, eqb-true, eqb-false, lt-ltb, le-ltb, ltb-true, ltb-false}
use lib.Dec.{eqb, ltb}
use lib.IntN.{ℤ, pos, negsuc, neg_ℤ, nat_abs}
use lib.ListN.{length, get_or, set, replicate}
use lib.Seq.{get_or-set_same, get_or-set_other}
use lib.Signed.{mag}
use mir.Syntax.{w32}
use mir.Val.{to_z, of_z}
use mir.ValLaws.{to_z-of_z}
use Rattle.model.proofs.Booleans.{iff-eq}
use Rattle.answer_signs.specs.Signs.{same_number}
use Rattle.refutation_hints.specs.Propagation.{within}
use Rattle.refutation_hints.specs.Marks.{slot_of, false_in, UpTo, Before, joined_code}

-- the slot of a number that a machine read from a slice
pub slot_read : (zs : List ℤ) (i : ℕ) → mag (get_or zs i (pos 0)) < 2 ^ 31
    → slot_of (to_z w32 (of_z w32 (get_or zs i (pos 0)))) ≡ slot_of (get_or zs i (pos 0))
slot_read zs i h = ap slot_of (to_z-of_z w32 (get_or zs i (pos 0)) (record { sfits = h }))

-- only 0 has slot 0, and none has slot 1
pub slot-zero : (z : ℤ) → slot_of z ≡ 0 → z ≡ pos 0
slot-zero (pos v) e = let z : v ≡ 0 = omega arith in ap pos z
slot-zero (negsuc v) e = absurd (omega arith)

pub slot-least : (z : ℤ) → (slot_of z ≡ 0 → ⊥) → 2 ≤ slot_of z
slot-least (pos zero) h = absurd (h refl)
slot-least (pos (suc v)) h = omega arith
slot-least (negsuc v) h = omega arith

-- a number has a mark where its slot, and that of its opposite, are among n pairs
pub slot-within : (n : ℕ) (z : ℤ) → within n z ≡ ltb (slot_of z) (n * 2)
unfolding within
slot-within n z = by-test (ltb (nat_abs z) n) refl
  where
    low : (z : ℤ) → nat_abs z < n → slot_of z < n * 2
    low (pos v) h = omega arith
    low (negsuc v) h = omega arith

    high : (z : ℤ) → n ≤ nat_abs z → n * 2 ≤ slot_of z
    high (pos v) h = omega arith
    high (negsuc v) h = omega arith

    by-test : (b : Bool) → ltb (nat_abs z) n ≡ b → ltb (nat_abs z) n ≡ ltb (slot_of z) (n * 2)
    by-test true e = e ∙ sym (lt-ltb (slot_of z) (n * 2) (low z (ltb-true (nat_abs z) n e)))
    by-test false e = e ∙ sym (le-ltb (slot_of z) (n * 2) (high z (ltb-false (nat_abs z) n e)))

-- slots tell numbers apart
slot-equal : (x y : ℤ) → slot_of x ≡ slot_of y → x ≡ y
slot-equal (pos x) (pos y) e = let h : x ≡ y = omega arith in ap pos h
slot-equal (pos x) (negsuc y) e = absurd (omega arith)
slot-equal (negsuc x) (pos y) e = absurd (omega arith)
slot-equal (negsuc x) (negsuc y) e = let h : x ≡ y = omega arith in ap negsuc h

pub same-equal : (x y : ℤ) → same_number x y ≡ true → x ≡ y
unfolding same_number
same-equal (pos x) (pos y) e = ap pos (eqb-true x y e)
same-equal (pos x) (negsuc y) e = absurd (false≢true e)
same-equal (negsuc x) (pos y) e = absurd (false≢true e)
same-equal (negsuc x) (negsuc y) e = ap negsuc (eqb-true x y e)

pub same_self : (x : ℤ) → same_number x x ≡ true
unfolding same_number
same_self (pos x) = eq-eqb x x refl
same_self (negsuc x) = eq-eqb x x refl

pub slot_same : (x y : ℤ) → eqb (slot_of x) (slot_of y) ≡ same_number x y
slot_same x y =
    iff-eq _ _ (λ e. rw (slot-equal x y (eqb-true (slot_of x) (slot_of y) e)) (same_self y))
    (λ e. eq-eqb (slot_of x) (slot_of y) (ap slot_of (same-equal x y e)))

-- the slot of an opposite
pub opposite-even : (z : ℤ) (s : ℕ) → 2 ≤ s → s % 2 ≡ 0 → slot_of z ≡ s → s + 1 ≡ slot_of (neg_ℤ z)
opposite-even (pos zero) s l p e = absurd (omega arith)
opposite-even (pos (suc v)) s l p e = omega arith
opposite-even (negsuc v) s l p e = absurd (omega arith)

pub opposite-odd : (z : ℤ) (s : ℕ) → (s % 2 ≡ 0 → ⊥) → slot_of z ≡ s → s - 1 ≡ slot_of (neg_ℤ z)
opposite-odd (pos v) s p e = absurd (p (omega arith))
opposite-odd (negsuc v) s p e = omega arith

-- joined outcomes: 0 changes nothing, 1 stays, and others stay only where they are the same
pub zero-joined_code : (b : ℕ) → joined_code 0 b ≡ b
unfolding joined_code
zero-joined_code b = refl

pub joined_code-zero : (a : ℕ) → joined_code a 0 ≡ a
unfolding joined_code
joined_code-zero zero = refl
joined_code-zero (suc a) = rw (ne_eqb (suc a) 0 (λ h. omega arith))

pub joined_code-same : (a : ℕ) → joined_code a a ≡ a
unfolding joined_code
joined_code-same zero = refl
joined_code-same (suc a) = rw (ne_eqb (suc a) 0 (λ h. omega arith), eq-eqb (suc a) (suc a) refl)

pub joined_code-other : (a b : ℕ) → (a ≡ 0 → ⊥) → (b ≡ 0 → ⊥) → (a ≡ b → ⊥) → joined_code a b ≡ 1
unfolding joined_code
joined_code-other a b p q d = rw (ne_eqb a 0 p, ne_eqb b 0 q, ne_eqb a b d)

pub one-joined_code : (b : ℕ) → joined_code 1 b ≡ 1
one-joined_code b = by_tests (eqb b 0) (eqb 1 b) refl refl
  where
    by_tests : (s t : Bool) → eqb b 0 ≡ s → eqb 1 b ≡ t → joined_code 1 b ≡ 1
    by_tests true t p q = rw (eqb-true b 0 p) (joined_code-zero 1)
    by_tests false true p q = rw (← eqb-true 1 b q) (joined_code-same 1)
    by_tests false false p q = joined_code-other 1 b (λ h. omega arith) (eqb-false b 0 p) (eqb-false 1 b q)

pub joined_code-one : (a : ℕ) → joined_code a 1 ≡ 1
joined_code-one a = by_tests (eqb a 0) (eqb a 1) refl refl
  where
    by_tests : (s t : Bool) → eqb a 0 ≡ s → eqb a 1 ≡ t → joined_code a 1 ≡ 1
    by_tests true t p q = rw (eqb-true a 0 p) (zero-joined_code 1)
    by_tests false true p q = rw (eqb-true a 1 q) (joined_code-same 1)
    by_tests false false p q = joined_code-other a 1 (eqb-false a 0 p) (λ h. omega arith) (eqb-false a 1 q)

pub joined_code-joined_code : (a b c : ℕ) → joined_code a (joined_code b c) ≡ joined_code (joined_code a b) c
joined_code-joined_code zero b c = zero-joined_code (joined_code b c) ∙ ap (λ x. joined_code x c) (sym (zero-joined_code b))
joined_code-joined_code (suc a) zero c = ap (joined_code (suc a)) (zero-joined_code c) ∙ ap (λ x. joined_code x c) (sym (joined_code-zero (suc a)))
joined_code-joined_code (suc a) (suc b) zero = ap (joined_code (suc a)) (joined_code-zero (suc b)) ∙ sym (joined_code-zero (joined_code (suc a) (suc b)))
joined_code-joined_code (suc a) (suc b) (suc c) = by_tests (eqb (suc a) (suc b)) (eqb (suc b) (suc c)) refl refl
  where
    by_tests :
        (s t : Bool) → eqb (suc a) (suc b) ≡ s → eqb (suc b) (suc c) ≡ t
        → joined_code (suc a) (joined_code (suc b) (suc c)) ≡ joined_code (joined_code (suc a) (suc b)) (suc c)
    by_tests true true p q =
        rw (eqb-true (suc a) (suc b) p, eqb-true (suc b) (suc c) q, joined_code-same (suc c), joined_code-same (suc c))
    by_tests true false p q =
        let d = joined_code-other (suc b) (suc c) (λ h. omega arith) (λ h. omega arith) (eqb-false (suc b) (suc c) q) in
        rw (eqb-true (suc a) (suc b) p, joined_code-same (suc b), d) (joined_code-one (suc b))
    by_tests false true p q =
        let d = joined_code-other (suc a) (suc b) (λ h. omega arith) (λ h. omega arith) (eqb-false (suc a) (suc b) p) in
        rw (← eqb-true (suc b) (suc c) q, joined_code-same (suc b), d) (sym (one-joined_code (suc b)))
    by_tests false false p q =
        let d = joined_code-other (suc a) (suc b) (λ h. omega arith) (λ h. omega arith) (eqb-false (suc a) (suc b) p) in
        let e = joined_code-other (suc b) (suc c) (λ h. omega arith) (λ h. omega arith) (eqb-false (suc b) (suc c) q) in
        rw (d, e) (joined_code-one (suc a) ∙ sym (one-joined_code (suc c)))

-- one mark more: one number more is false, and no mark is of a later turn
pub false-more : (marks : List ℕ) (turn : ℕ) (y : ℤ) → slot_of y < length marks
    → (z : ℤ) → false_in (set marks (slot_of y) turn) turn z ≡ (same_number z y || false_in marks turn z)
false-more marks turn y l z = by-test (same_number z y) refl
  where
    by-test : (t : Bool) → same_number z y ≡ t → false_in (set marks (slot_of y) turn) turn z ≡ (t || false_in marks turn z)
    by-test true e = rw (same-equal z y e, get_or-set_same marks (slot_of y) turn 0 l) (eq-eqb turn turn refl)
    by-test false e =
        rw (get_or-set_other marks (slot_of y) (slot_of z) turn 0 (λ h. false≢true (sym e ∙ rw (slot-equal z y h) (same_self y))))

pub marked_more : (marks : List ℕ) (turn : ℕ) (y : ℤ) → slot_of y < length marks → (z : ℤ) (rest all : Bool)
    → (false_in marks turn z || (same_number z y || rest)) ≡ all → (false_in (set marks (slot_of y) turn) turn z || rest) ≡ all
marked_more marks turn y l z rest all e = rw (false-more marks turn y l z) (swap (same_number z y) (false_in marks turn z) ∙ e)
  where
    swap : (p q : Bool) → (p || q || rest) ≡ (q || (p || rest))
    swap true true = refl
    swap true false = refl
    swap false true = refl
    swap false false = refl

pub up_to-more : (marks : List ℕ) (turn s : ℕ) → s < length marks → UpTo turn marks → UpTo turn (set marks s turn)
up_to-more marks turn s l u r = by-test (eqb r s) refl
  where
    by-test : (t : Bool) → eqb r s ≡ t → get_or (set marks s turn) r 0 ≤ turn
    by-test true e = rw (eqb-true r s e, get_or-set_same marks s turn 0 l) (omega arith)
    by-test false e = rw (get_or-set_other marks s r turn 0 (λ h. eqb-false r s e h)) (u r)

-- none is of a turn that has just begun
pub none-false : (marks : List ℕ) (turn : ℕ) → Before turn marks → (z : ℤ) → false_in marks turn z ≡ false
none-false marks turn b z = ne_eqb (get_or marks (slot_of z) 0) turn (λ h. omega (arith, b (slot_of z)))

-- no mark of as many zeros is of a turn
pub up_to-zeros : (n : ℕ) → UpTo 0 (replicate n 0)
up_to-zeros zero s = omega arith
up_to-zeros (suc n) zero = omega arith
up_to-zeros (suc n) (suc s) = up_to-zeros n s
