-- Laws of outcomes: one number more in front of a clause, and that a unit has a mark. No contract cites this file.
use Prim.Native.Nat.{ℕ, zero, suc, ◌+◌, ◌*◌, ◌≤◌, ◌<◌}
use mathlib.Core.Path.{◌≡◌, refl, sym, ◌∙◌}
use mathlib.Core.Bool.{Bool, true, false, cond, ◌&&◌, false≢true}
use mathlib.Core.List.{List, [], ◌∷◌}
use native.Mathlib.Numerals.{add-one}
use native.Mathlib.Omega.{arith}
use borrow.Author.Tests.{eqb-false, ltb-true}
use lib.Dec.{ltb}
use lib.IntN.{ℤ, pos, negsuc}
use lib.ListN.{length, get_or, drop, drop_of_length-le}
use lib.Seq.{drop-cons}
use Rattle.model.specs.Numbers.{split_after, clauses_in}
use Rattle.model.proofs.Booleans.{and-true}
use Rattle.model.proofs.Gather.{All, nothing, also}
use Rattle.answer_signs.specs.Signs.{same_number}
use Rattle.refutation_hints.specs.Propagation.{every, within, free_of, Outcome, conflict, unit, undecided, outcome_of, first_outcome, starts_at, hint_outcome}
use Rattle.refutation_hints.specs.Marks.{slot_of, code_of, joined_code}
use Rattle.refutation_hints.proofs.Marks.{same-equal, slot-zero, slot_same, slot-within, zero-joined_code, joined_code-zero, joined_code-same, joined_code-other, joined_code-one}
use Rattle.refutation_hints.proofs.Clauses.{is_number, number-of-slot, NumbersOnly, on_first, clauses_in-number, clauses_in-numbers_only}

-- what holds of all numbers of a clause holds of those that are left
pub every-free : (test f : ℤ → Bool) (c : List ℤ) → every test c ≡ true → every test (free_of f c) ≡ true
unfolding every free_of
every-free test f [] h = refl
every-free test f (z ∷ c) h =
    let both = (and-true (test z) (every test c)).0 h in
    by-test (f z) (every-free test f c both.1) both.0
  where
    by-test : (t : Bool) → every test (free_of f c) ≡ true → test z ≡ true → every test (cond t (free_of f c) (z ∷ free_of f c)) ≡ true
    by-test true r p = r
    by-test false r p = (and-true (test z) (every test (free_of f c))).1 (p, r)

pub number-least : (z : ℤ) → is_number z ≡ true → 2 ≤ slot_of z
unfolding is_number
number-least (pos zero) h = absurd (false≢true h)
number-least (pos (suc v)) h = omega arith
number-least (negsuc v) h = omega arith

-- one number more that is not false
outcome-number : (z : ℤ) (free : List ℤ) → is_number z ≡ true → NumbersOnly free
    → code_of (outcome_of (z ∷ free)) ≡ joined_code (slot_of z) (code_of (outcome_of free))
unfolding outcome_of every NumbersOnly
outcome-number z [] p h = sym (joined_code-zero (slot_of z))
outcome-number z (y ∷ ys) p h = by-test (same_number z y) refl
  where
    same : (t : Bool) → code_of (cond t (unit z) undecided) ≡ joined_code (slot_of z) (code_of (cond t (unit z) undecided))
    same true = sym (joined_code-same (slot_of z))
    same false = sym (joined_code-one (slot_of z))

    other : (t : Bool) → (slot_of z ≡ slot_of y → ⊥) → 1 ≡ joined_code (slot_of z) (code_of (cond t (unit y) undecided))
    other true d =
        sym (joined_code-other (slot_of z) (slot_of y) (λ e. omega (arith, number-least z p)) (λ e. omega (arith, number-least y ((and-true (is_number y) (every is_number ys)).0 h).0)) d)
    other false d = sym (joined_code-one (slot_of z))

    by-test :
        (t : Bool) → same_number z y ≡ t
        → code_of (cond (t && every (same_number z) ys) (unit z) undecided)
        ≡ joined_code (slot_of z) (code_of (cond (every (same_number y) ys) (unit y) undecided))
    by-test true e = rw (← same-equal z y e) (same (every (same_number z) ys))
    by-test false e = other (every (same_number y) ys) (eqb-false (slot_of z) (slot_of y) (slot_same z y ∙ e))

-- one number more of the first clause
pub first-number : (n : ℕ) (f : ℤ → Bool) (z : ℤ) (zs : List ℤ) → is_number z ≡ true
    → code_of (first_outcome n f (clauses_in (z ∷ zs)))
    ≡ cond (within n z) (joined_code (cond (f z) 0 (slot_of z)) (code_of (first_outcome n f (clauses_in zs)))) 1
unfolding first_outcome on_first every free_of NumbersOnly
first-number n f z zs p = rw (clauses_in-number z zs p) (go (clauses_in zs) (clauses_in-numbers_only zs))
  where
    none : (t : Bool) (x : ℕ) → 1 ≡ cond t (joined_code x 1) 1
    none true x = sym (joined_code-one x)
    none false x = refl

    some : (c : List ℤ) → NumbersOnly c → (t u v : Bool)
        → code_of (cond (t && u) (outcome_of (cond v (free_of f c) (z ∷ free_of f c))) undecided)
        ≡ cond t (joined_code (cond v 0 (slot_of z)) (code_of (cond u (outcome_of (free_of f c)) undecided))) 1
    some c h false u v = refl
    some c h true false v = sym (joined_code-one (cond v 0 (slot_of z)))
    some c h true true true = sym (zero-joined_code (code_of (outcome_of (free_of f c))))
    some c h true true false = outcome-number z (free_of f c) p (every-free is_number f c h)

    go : (cs : List (List ℤ)) → All NumbersOnly cs
        → code_of (first_outcome n f (on_first (z ∷ []) cs))
        ≡ cond (within n z) (joined_code (cond (f z) 0 (slot_of z)) (code_of (first_outcome n f cs))) 1
    go [] nothing = none (within n z) (cond (f z) 0 (slot_of z))
    go (c ∷ cs) (also h r) = some c h (within n z) (every (within n) c) (f z)

-- the clause from a place on: it ends there, its number there has no mark, or goes on
module _ (n : ℕ) (f : ℤ → Bool) (zs : List ℤ) (i : ℕ) where
  pub outcome-end : i < length zs → slot_of (get_or zs i (pos 0)) ≡ 0 → code_of (first_outcome n f (clauses_in (drop i zs))) ≡ 0
  unfolding clauses_in split_after first_outcome every outcome_of free_of
  outcome-end l e = rw (drop-cons zs i (pos 0) l, slot-zero (get_or zs i (pos 0)) e)

  pub outcome-none : length zs ≤ i → code_of (first_outcome n f (clauses_in (drop i zs))) ≡ 1
  unfolding clauses_in split_after first_outcome
  outcome-none l = rw (drop_of_length-le zs l)

  pub outcome-here : i < length zs → (slot_of (get_or zs i (pos 0)) ≡ 0 → ⊥)
      → code_of (first_outcome n f (clauses_in (drop i zs)))
      ≡ cond (ltb (slot_of (get_or zs i (pos 0))) (n * 2))
      (joined_code (cond (f (get_or zs i (pos 0))) 0 (slot_of (get_or zs i (pos 0)))) (code_of (first_outcome n f (clauses_in (drop (i + 1) zs))))) 1
  outcome-here l d =
      rw (add-one, drop-cons zs i (pos 0) l, ← slot-within n (get_or zs i (pos 0)))
      (first-number n f (get_or zs i (pos 0)) (drop (suc i) zs) (number-of-slot (get_or zs i (pos 0)) d))

-- a unit is a number that has a mark
unfoldable pub Sane : ℕ → Outcome → Type 0
Sane n conflict = Unit
Sane n (unit z) = (is_number z ≡ true) × (within n z ≡ true)
Sane n undecided = Unit

outcome-sane : (n : ℕ) (free : List ℤ) → NumbersOnly free → every (within n) free ≡ true → Sane n (outcome_of free)
unfolding Sane outcome_of NumbersOnly every
outcome-sane n [] h w = tt
outcome-sane n (z ∷ zs) h w =
    go (every (same_number z) zs) ((and-true (is_number z) (every is_number zs)).0 h).0 ((and-true (within n z) (every (within n) zs)).0 w).0
  where
    go : (t : Bool) → is_number z ≡ true → within n z ≡ true → Sane n (cond t (unit z) undecided)
    go true p q = (p, q)
    go false p q = tt

first-sane : (n : ℕ) (f : ℤ → Bool) (cs : List (List ℤ)) → All NumbersOnly cs → Sane n (first_outcome n f cs)
unfolding Sane first_outcome NumbersOnly
first-sane n f [] nothing = tt
first-sane n f (c ∷ cs) (also h r) = go (every (within n) c) refl
  where
    go : (t : Bool) → every (within n) c ≡ t → Sane n (cond t (outcome_of (free_of f c)) undecided)
    go true e = outcome-sane n (free_of f c) (every-free is_number f c h) (every-free (within n) f c e)
    go false e = tt

pub hint-sane : (n : ℕ) (known : List ℤ) (f : ℤ → Bool) (h : ℕ) → Sane n (hint_outcome n known f h)
unfolding Sane hint_outcome
hint-sane n known f h = go (starts_at known h)
  where
    go : (t : Bool) → Sane n (cond t (first_outcome n f (clauses_in (drop h known))) undecided)
    go true = first-sane n f (clauses_in (drop h known)) (clauses_in-numbers_only (drop h known))
    go false = tt

-- an outcome from its code
pub code-conflict : (n : ℕ) (o : Outcome) → Sane n o → code_of o ≡ 0 → o ≡ conflict
unfolding Sane
code-conflict n conflict s e = refl
code-conflict n (unit z) s e = absurd (omega (arith, number-least z s.0))
code-conflict n undecided s e = absurd (omega arith)

pub code-undecided : (n : ℕ) (o : Outcome) → Sane n o → code_of o ≡ 1 → o ≡ undecided
unfolding Sane
code-undecided n conflict s e = absurd (omega arith)
code-undecided n (unit z) s e = absurd (omega (arith, number-least z s.0))
code-undecided n undecided s e = refl

pub record IsUnit (n : ℕ) (o : Outcome) : Type 0 where
  pub z : ℤ
  pub is : o ≡ unit z
  pub slot : slot_of z ≡ code_of o
  pub least : 2 ≤ code_of o
  pub most : code_of o < n * 2

pub code-unit : (n : ℕ) (o : Outcome) → Sane n o → (code_of o ≡ 0 → ⊥) → (code_of o ≡ 1 → ⊥) → IsUnit n o
unfolding Sane
code-unit n conflict s p q = absurd (p refl)
code-unit n undecided s p q = absurd (q refl)
code-unit n (unit z) s p q =
    record { z = z; is = refl; slot = refl; least = number-least z s.0; most = ltb-true (slot_of z) (n * 2) (sym (slot-within n z) ∙ s.1) }
