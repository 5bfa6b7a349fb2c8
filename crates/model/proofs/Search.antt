-- Laws of specs/Search.antt. No contract cites this file.
use Prim.Native.Nat.{ℕ, zero, suc, ◌+◌, ◌≤◌, ◌<◌}
use mathlib.Core.Path.{◌≡◌, refl, sym, ◌∙◌}
use mathlib.Core.Bool.{Bool, true, false, cond, ◌||◌, true≢false, false≢true, or-false, or_assoc}
use mathlib.Core.Logic.{◌⊎◌, inl, inr, ◌↔◌, by_cases}
use native.Mathlib.Nat.{not-suc-le-zero, lt-suc_self, le_step}
use native.Mathlib.Decide.{dec_lt}
use native.Mathlib.Numerals.{add-one}
use native.Mathlib.Omega.{arith}
use lib.Dec.{eqb}
use borrow.Author.Tests.{eq-eqb, eqb-true}
use Rattle.model.specs.Search.{any_below, first_from, first_where, IsFirst, seen}
use Rattle.model.proofs.Below.{below_suc, all-below-suc}
use Rattle.model.proofs.Booleans.{or-true, not-true-false}

-- a loop over the numbers finds b, where that was found before, or that any has a property: at its start, and one number on
module _ (b : Bool) (has : ℕ → Bool) where
  pub any_none : b ≡ (b || any_below 0 has)
  unfolding any_below
  any_none = sym (or-false b)

  pub any_next : (n : ℕ) → (b || any_below n has || has n) ≡ (b || any_below (n + 1) has)
  unfolding any_below
  any_next n = rw add-one (or_assoc b (any_below n has) (has n))

-- any below n has a property where one has it
pub any_below_lem : (has : ℕ → Bool) (n : ℕ) → (any_below n has ≡ true) ↔ ((k : ℕ) × (k < n) × (has k ≡ true))
unfolding any_below
any_below_lem has zero = (λ h. absurd (false≢true h), λ h. absurd (not-suc-le-zero h.1))
any_below_lem has (suc n) = (
  λ h. last ((or-true (any_below n has) (has n)).0 h) (any_below_lem has n).0,
  λ h. (or-true (any_below n has) (has n)).1 (earlier h.0 h.2 (below_suc h.0 n h.1) (any_below_lem has n).1),
)
  where
    last : (any_below n has ≡ true) ⊎ (has n ≡ true) → (any_below n has ≡ true → (k : ℕ) × (k < n) × (has k ≡ true))
        → (k : ℕ) × (k < suc n) × (has k ≡ true)
    last (inl h) before = let p = before h in (p.0, le_step p.1, p.2)
    last (inr h) before = (n, lt-suc_self n, h)

    earlier : (k : ℕ) → has k ≡ true → (k < n) ⊎ (k ≡ n) → ((k : ℕ) × (k < n) × (has k ≡ true) → any_below n has ≡ true)
        → (any_below n has ≡ true) ⊎ (has n ≡ true)
    earlier k e (inl l) before = inl (before (k, l, e))
    earlier k e (inr q) before = inr (rw q at e)

-- none has it where each has it not
pub none_below : (has : ℕ → Bool) (n : ℕ) → (any_below n has ≡ false) ↔ ((k : ℕ) → k < n → has k ≡ false)
none_below has n = (
  λ h k l. not-true-false (has k) (λ e. true≢false (sym ((any_below_lem has n).1 (k, l, e)) ∙ h)),
  λ h. not-true-false (any_below n has)
      (λ e. let found = (any_below_lem has n).0 e in true≢false (sym found.2 ∙ h found.0 found.1)),
)

-- as where nothing has it
pub any-never : (n : ℕ) → any_below n (λ k. false) ≡ false
any-never n = (none_below (λ k. false) n).1 (λ k h. refl)

-- the search finds the first place
first_from-is : (f : ℕ → Bool) (n d i : ℕ) → d + i ≡ n → ((q : ℕ) → q < i → f q ≡ false) → IsFirst f n (first_from f d i)
unfolding first_from
first_from-is f n zero i e before = record { within = omega arith; none_before = before; holds-there = λ l. absurd (omega arith) }
first_from-is f n (suc d) i e before =
    here (f i) refl (λ h. first_from-is f n d (suc i) (omega arith) (all-below-suc (λ q. f q ≡ false) i before h))
  where
    here : (b : Bool) → f i ≡ b → (f i ≡ false → IsFirst f n (first_from f d (suc i))) → IsFirst f n (cond b i (first_from f d (suc i)))
    here true h later = record { within = omega arith; none_before = before; holds-there = λ l. h }
    here false h later = later h

pub first_where-is : (f : ℕ → Bool) (n : ℕ) → IsFirst f n (first_where f n)
unfolding first_where
first_where-is f n = first_from-is f n n 0 (omega arith) (λ q b. absurd (not-suc-le-zero b))

-- a place where f holds is not before the first
pub first-least : {f : ℕ → Bool} {n p q : ℕ} → IsFirst f n p → f q ≡ true → p ≤ q
first-least {f} {n} {p} {q} a h =
    by_cases (dec_lt q p) (λ l. absurd (true≢false (sym h ∙ a.none_before q l))) (λ l. omega arith)

-- there is one first place
pub first-unique : {f : ℕ → Bool} {n p q : ℕ} → IsFirst f n p → IsFirst f n q → p ≡ q
first-unique {f} {n} {p} {q} a b =
    by_cases (dec_lt p q) (λ l. absurd (omega (arith, first-least b (a.holds-there (omega (arith, b.within)))))) λ l.
    by_cases (dec_lt q p) (λ r. absurd (omega (arith, first-least a (b.holds-there (omega (arith, a.within)))))) (λ r. omega arith)

-- a number that was seen stands at an earlier place
pub seen_at : (f : ℕ → ℕ) (i v : ℕ) → (seen f i v ≡ true) ↔ ((j : ℕ) × (j < i) × (f j ≡ v))
unfolding seen
seen_at f i v = (
  λ h. let found = (any_below_lem (λ x. eqb (f x) v) i).0 h in (found.0, found.1, eqb-true (f found.0) v found.2),
  λ h. (any_below_lem (λ x. eqb (f x) v) i).1 (h.0, h.1, eq-eqb (f h.0) v h.2),
)

-- one that was not seen before stands at its first place
pub unseen-first : (f : ℕ → ℕ) (n v i : ℕ) → i < n → f i ≡ v → seen f i v ≡ false → IsFirst (λ x. eqb (f x) v) n i
unfolding seen
unseen-first f n v i b e h =
    record { within = omega arith; none_before = (none_below (λ x. eqb (f x) v) i).0 h; holds-there = λ l. eq-eqb (f i) v e }
