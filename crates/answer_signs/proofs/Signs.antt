-- Laws of specs/Signs.antt and Marks.antt: a table of no signs, one number more, and what a table tells. No contract cites this file.
use Prim.Native.Nat.{ℕ, zero, suc, ◌+◌, ◌≤◌, ◌<◌}
use mathlib.Core.Path.{◌≡◌, refl, sym, ap, ◌∙◌}
use mathlib.Core.Bool.{Bool, true, false, cond, ◌||◌, beq}
use mathlib.Core.List.{List, [], ◌∷◌, ◌++◌}
use native.Mathlib.Omega.{arith}
use lib.Dec.{eqb}
use lib.IntN.{ℤ, pos, negsuc, neg_ℤ, nat_abs}
use lib.ListN.{length, get_or, set, replicate, length-set}
use lib.Seq.{get_or-set_same, get_or-set_other}
use borrow.Author.Tests.{eq-eqb, eqb-true, eqb-false, ne_eqb, lt-ltb}
use Rattle.model.specs.Bits.{odd}
use Rattle.text_writer.specs.Signed.{parts_of}
use Rattle.answer_signs.specs.Signs.{same_number, among, assignment_of, unclear, signs_of, table_size, SignsOf, true_in, unclear_in}
use Rattle.answer_signs.specs.Marks.{with_sign, TableTells}

pub replicate-zero : (n v : ℕ) → ◌≡◌ {A = ℕ} (get_or (replicate n 0) v 0) 0
replicate-zero zero v = refl
replicate-zero (suc n) zero = refl
replicate-zero (suc n) (suc v) = replicate-zero n v

pub none : (table : List ℕ) → length table ≡ table_size → ((v : ℕ) → get_or table v 0 ≡ 0) → SignsOf [] table
unfolding signs_of among
none table l z = record { full = l; has = λ v h. z v }

-- a number stands in a list with one more where it stood before, or is the one
among_next : (z y : ℤ) (ys : List ℤ) → among z (ys ++ y ∷ []) ≡ (among z ys || same_number z y)
unfolding among
among_next z y [] = or-false (same_number z y)
  where
    or-false : (b : Bool) → (b || false) ≡ b
    or-false true = refl
    or-false false = refl
among_next z y (x ∷ ys) = by_first (same_number z x) (among_next z y ys)
  where
    by_first : (b : Bool) → among z (ys ++ y ∷ []) ≡ (among z ys || same_number z y)
        → (b || among z (ys ++ y ∷ [])) ≡ ((b || among z ys) || same_number z y)
    by_first true p = refl
    by_first false p = p

-- how a number's parts name it
same-plus : (v x : ℕ) → 1 ≤ x → (same_number (pos v) (pos x) ≡ eqb v x) × (same_number (neg_ℤ (pos v)) (pos x) ≡ false)
unfolding same_number
same-plus zero x l = (refl, ne_eqb zero x (λ h. omega arith))
same-plus (suc v) x l = (refl, refl)

suc-eqb : (v x : ℕ) → eqb (suc v) (suc x) ≡ eqb v x
suc-eqb v x = by-test (eqb v x) refl
  where
    by-test : (b : Bool) → eqb v x ≡ b → eqb (suc v) (suc x) ≡ eqb v x
    by-test true e = eq-eqb (suc v) (suc x) (ap suc (eqb-true v x e)) ∙ sym e
    by-test false e = ne_eqb (suc v) (suc x) (λ h. eqb-false v x e (omega arith)) ∙ sym e

same-minus : (v x : ℕ) → (same_number (pos v) (negsuc x) ≡ false) × (same_number (neg_ℤ (pos v)) (negsuc x) ≡ eqb v (suc x))
unfolding same_number
same-minus zero x = (refl, sym (ne_eqb zero (suc x) (λ h. omega arith)))
same-minus (suc v) x = (refl, sym (suc-eqb v x))

-- the entry of a variable whose sign is seen once more
with-plus : (p m : Bool) → with_sign 0 (cond p 1 0 + cond m 2 0) ≡ cond (p || true) 1 0 + cond (m || false) 2 0
unfolding with_sign odd
with-plus true true = refl
with-plus true false = refl
with-plus false true = refl
with-plus false false = refl

with-minus : (p m : Bool) → with_sign 1 (cond p 1 0 + cond m 2 0) ≡ cond (p || false) 1 0 + cond (m || true) 2 0
unfolding with_sign odd
with-minus true true = refl
with-minus true false = refl
with-minus false true = refl
with-minus false false = refl

with_none : (p m : Bool) → cond p 1 0 + cond m 2 0 ≡ cond (p || false) 1 0 + cond (m || false) 2 0
with_none true true = refl
with_none true false = refl
with_none false true = refl
with_none false false = refl

-- the signs of a list with one number more: of its variable, and of any other
signs-next : (ys : List ℤ) (z : ℤ) (v : ℕ)
    → signs_of (ys ++ z ∷ []) v ≡ cond (among (pos v) ys || same_number (pos v) z) 1 0 + cond (among (neg_ℤ (pos v)) ys || same_number (neg_ℤ (pos v)) z) 2 0
unfolding signs_of
signs-next ys z v = rw (among_next (pos v) z ys, among_next (neg_ℤ (pos v)) z ys)

signs-same : (ys : List ℤ) (z : ℤ) → 1 ≤ nat_abs z
    → signs_of (ys ++ z ∷ []) (parts_of z).value ≡ with_sign (parts_of z).sign (signs_of ys (parts_of z).value)
unfolding signs_of
signs-same ys (pos x) l =
    signs-next ys (pos x) x
    ∙ rw ((same-plus x x l).0, (same-plus x x l).1, eq-eqb x x refl) (sym (with-plus (among (pos x) ys) (among (neg_ℤ (pos x)) ys)))
signs-same ys (negsuc x) l =
    signs-next ys (negsuc x) (suc x)
    ∙ rw ((same-minus (suc x) x).0, (same-minus (suc x) x).1, eq-eqb (suc x) (suc x) refl)
    (sym (with-minus (among (pos (suc x)) ys) (among (neg_ℤ (pos (suc x))) ys)))

signs-other : (ys : List ℤ) (z : ℤ) → 1 ≤ nat_abs z → (v : ℕ) → (v ≡ (parts_of z).value → ⊥) → signs_of (ys ++ z ∷ []) v ≡ signs_of ys v
unfolding signs_of
signs-other ys (pos x) l v ne =
    signs-next ys (pos x) v
    ∙ rw ((same-plus v x l).0, (same-plus v x l).1, ne_eqb v x ne) (sym (with_none (among (pos v) ys) (among (neg_ℤ (pos v)) ys)))
signs-other ys (negsuc x) l v ne =
    signs-next ys (negsuc x) v
    ∙ rw ((same-minus v x).0, (same-minus v x).1, ne_eqb v (suc x) ne) (sym (with_none (among (pos v) ys) (among (neg_ℤ (pos v)) ys)))

-- one number more in the table, and one past it
module _ (ys : List ℤ) (z : ℤ) (some : 1 ≤ nat_abs z) (table : List ℕ) (s : SignsOf ys table) where
  pub marked : (parts_of z).value < table_size
      → SignsOf (ys ++ z ∷ []) (set table (parts_of z).value (with_sign (parts_of z).sign (get_or table (parts_of z).value 0)))
  marked h =
      record {
        full = length-set table (parts_of z).value _ ∙ s.full;
        has = λ v l. by_place v l (eqb v (parts_of z).value) refl;
      }
    where
      by_place : (v : ℕ) → v < table_size → (b : Bool) → eqb v (parts_of z).value ≡ b
          → get_or (set table (parts_of z).value (with_sign (parts_of z).sign (get_or table (parts_of z).value 0))) v 0 ≡ signs_of (ys ++ z ∷ []) v
      by_place v l true e =
          let here : v ≡ (parts_of z).value = eqb-true v (parts_of z).value e in
          rw here (get_or-set_same table (parts_of z).value _ 0 (rw s.full h) ∙ rw (s.has (parts_of z).value h) (sym (signs-same ys z some)))
      by_place v l false e =
          let other : v ≡ (parts_of z).value → ⊥ = eqb-false v (parts_of z).value e in
          get_or-set_other table (parts_of z).value v _ 0 other ∙ s.has v l ∙ sym (signs-other ys z some v other)

  pub past : table_size ≤ (parts_of z).value → SignsOf (ys ++ z ∷ []) table
  past h = record { full = s.full; has = λ v l. s.has v l ∙ sym (signs-other ys z some v (λ e. omega arith)) }

-- a table tells what the numbers say
pub table-tells : TableTells
unfolding assignment_of unclear signs_of true_in unclear_in odd
table-tells =
    record {
      true-is = λ ys table s v h. rw (lt-ltb v table_size h, s.has v h) (by-signs (among (pos v) ys) (among (neg_ℤ (pos v)) ys));
      unclear-is = λ ys table s v h. rw (lt-ltb v table_size h, s.has v h) (by_both (among (pos v) ys) (among (neg_ℤ (pos v)) ys));
    }
  where
    by-signs : (p m : Bool) → odd (cond p 1 0 + cond m 2 0) ≡ p
    by-signs true true = refl
    by-signs true false = refl
    by-signs false true = refl
    by-signs false false = refl

    by_both : (p m : Bool) → (eqb (cond p 1 0 + cond m 2 0) 0 || eqb (cond p 1 0 + cond m 2 0) 3) ≡ beq p m
    by_both true true = refl
    by_both true false = refl
    by_both false true = refl
    by_both false false = refl
