-- Laws of chains of tests (specs/Tests.antt): when none refuses, and which is the first that does. Cited by the crates that test
-- records and sheets.
use Prim.Native.Nat.{ℕ, zero, suc, ◌≤◌}
use mathlib.Core.Path.{◌≡◌, refl, ◌∙◌, ap}
use mathlib.Core.Bool.{Bool, true, false, true≢false}
use mathlib.Core.Logic.{◌⊎◌, inl, inr, ◌↔◌, by_cases}
use native.Mathlib.Nat.{le_refl, le-suc_iff}
use native.Mathlib.Decide.{le_ind, dec_lt}
use native.Mathlib.Omega.{arith}
use lib.Dec.{ltb}
use Rattle.std.specs.Prelude.{Ok, Err}
use borrow.Author.Tests.{lt-ltb, le-ltb}
use Rattle.model.specs.Search.{IsFirst}
use Rattle.refusals.specs.Tests.{refuse_if, ◌then◌, in_order}
use Rattle.refusals.specs.declared.Refusal.{Refusal}
use Rattle.refusals.specs.Verdict.{Verdict, Passed, refuse}

-- a refusal is not a pass
pub refused-not-passed : {r : Refusal} {p : ℕ} → refuse r p ≡ Passed → ⊥
refused-not-passed e = let z : ◌≡◌ {A = ℕ} 0 1 = cc in omega arith

-- one test passes where its condition does not hold
pub refuse_if-passes : (b : Bool) (r : Refusal) (p : ℕ) → (refuse_if b r p ≡ Passed) ↔ (b ≡ false)
refuse_if-passes true r p = (λ e. absurd (refused-not-passed e), λ e. absurd (true≢false e))
refuse_if-passes false r p = (λ e. refl, λ e. refl)

-- two tests pass where each does
pub then-passes : (v w : Verdict) → (v then w ≡ Passed) ↔ ((v ≡ Passed) × (w ≡ Passed))
unfolding ◌then◌
then-passes (Ok _) w = (λ e. (refl, e), λ h. h.1)
then-passes (Err e) w = (λ h. absurd (refused-not-passed h), λ h. absurd (refused-not-passed h.0))

-- after a pass the rest decides
pub passed_then : (w : Verdict) → Passed then w ≡ w
unfolding ◌then◌
passed_then w = refl

-- a chain that passes has a first test, and a rest, that pass
pub first_passes : (v w : Verdict) → v then w ≡ Passed → v ≡ Passed
first_passes v w e = ((then-passes v w).0 e).0

pub rest-passes : (v w : Verdict) → v then w ≡ Passed → w ≡ Passed
rest-passes v w e = ((then-passes v w).0 e).1

module _ (test : ℕ → Verdict) where
  -- one place more
  pub in_order-suc : (n : ℕ) → in_order test n ≡ Passed → in_order test (suc n) ≡ test (suc n)
  unfolding in_order ◌then◌
  in_order-suc n e = rw e

  -- places after a refusal change nothing
  pub in_order-kept : (k n : ℕ) {r : Refusal} {p : ℕ} → k ≤ n → in_order test k ≡ refuse r p → in_order test n ≡ refuse r p
  unfolding in_order ◌then◌
  in_order-kept k n {r} {p} l e =
      le_ind (λ (j : ℕ). in_order test j ≡ refuse r p) e (λ j m h. rw h) n l

  -- the tests of all places pass where each does
  pub in_order-passes : (n : ℕ) → (in_order test n ≡ Passed) ↔ ((p : ℕ) → 1 ≤ p → p ≤ n → test p ≡ Passed)
  unfolding in_order
  in_order-passes zero = (λ e p l b. absurd (omega arith), λ h. refl)
  in_order-passes (suc n) = (
    λ e p l b. at (in_order-passes n).0 p l ((then-passes _ _).0 e) (le-suc_iff.0 b),
    λ h. (then-passes _ _).1 ((in_order-passes n).1 (λ p l b. h p l (omega arith)), h (suc n) (omega arith) (le_refl _)),
  )
    where
      at : (earlier : in_order test n ≡ Passed → (p : ℕ) → 1 ≤ p → p ≤ n → test p ≡ Passed) (p : ℕ) → 1 ≤ p → (in_order test n ≡ Passed) × (test (suc n) ≡ Passed) → (p ≤ n) ⊎ (p ≡ suc n) → test p ≡ Passed
      at earlier p l e (inl b) = earlier e.0 p l b
      at earlier p l e (inr q) = ap test q ∙ e.1

-- equal tests have equal verdicts
pub in_order-same : {test other : ℕ → Verdict} → ((p : ℕ) → test p ≡ other p) → (n : ℕ) → in_order test n ≡ in_order other n
unfolding in_order
in_order-same same zero = refl
in_order-same same (suc n) = rw (in_order-same same n, same (suc n))

-- One test of each place: the refusal is at the first place where its condition holds. Places are counted from 1.
module _ (f : ℕ → Bool) (r : Refusal) (n : ℕ) where
  pub in_order-first : {q : ℕ} → IsFirst (λ x. f (suc x)) n q → in_order (λ p. refuse_if (f p) r p) n ≡ refuse_if (ltb q n) r (suc q)
  in_order-first {q} first =
      by_cases (dec_lt q n)
      (λ l. rw (lt-ltb q n l)
      (in_order-kept (λ p. refuse_if (f p) r p) (suc q) n l
      (in_order-suc (λ p. refuse_if (f p) r p) q (passes q (le_refl q)) ∙ ap (λ (b : Bool). refuse_if b r (suc q)) (first.holds-there l))))
      (λ l. rw (le-ltb q n (omega arith)) (passes n (omega (arith, first.within))))
    where
      at : (p : ℕ) → 1 ≤ p → p ≤ q → f p ≡ false
      at zero l b = absurd (omega arith)
      at (suc p) l b = first.none_before p b

      passes : (k : ℕ) → k ≤ q → in_order (λ p. refuse_if (f p) r p) k ≡ Passed
      passes k b = (in_order-passes (λ p. refuse_if (f p) r p) k).1 (λ p l m. (refuse_if-passes (f p) r p).1 (at p l (omega arith)))
