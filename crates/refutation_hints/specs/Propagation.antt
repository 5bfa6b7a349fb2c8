-- Unit propagation along hints. A lemma follows from the clauses before it by reverse unit propagation (RUP) where its numbers, taken
-- as false, lead to a conflict through the clauses that its hints name (RULES U4). Cited by the functions of this crate.
use Rattle.std.specs.Prelude.{ℕ, zero, suc, Bool, true, false, cond, ◌&&◌, ◌||◌, List, [], ◌∷◌, ltb, ℤ, pos, neg_ℤ, nat_abs, get_or, drop}
use Rattle.model.specs.Numbers.{clauses_in}
use Rattle.answer_signs.specs.Signs.{same_number, among}

-- whether each number of a list passes a test
unfoldable pub every : (ℤ → Bool) → List ℤ → Bool
every test [] = true
every test (z ∷ zs) = test z && every test zs

-- the numbers of a clause that are not known to be false
unfoldable pub free_of : (ℤ → Bool) → List ℤ → List ℤ
free_of isFalse [] = []
free_of isFalse (z ∷ c) = cond (isFalse z) (free_of isFalse c) (z ∷ free_of isFalse c)

-- what those that are left of a true clause say: there are none; it is one, repeats allowed, which is true then; or nothing yet
pub data Outcome : Type 0 where
  conflict : Outcome
  unit : ℤ → Outcome
  undecided : Outcome

unfoldable pub outcome_of : List ℤ → Outcome
outcome_of [] = conflict
outcome_of (z ∷ zs) = cond (every (same_number z) zs) (unit z) undecided

-- variables are those below n
unfoldable pub within : ℕ → ℤ → Bool
within n z = ltb (nat_abs z) n

-- the first of some clauses. Where there is none, or it names a variable that is none, it says nothing
unfoldable pub first_outcome : ℕ → (ℤ → Bool) → List (List ℤ) → Outcome
first_outcome n isFalse [] = undecided
first_outcome n isFalse (c ∷ cs) = cond (every (within n) c) (outcome_of (free_of isFalse c)) undecided

-- whether a clause starts at a place: the first one, or the number before it is an end mark
unfoldable pub starts_at : List ℤ → ℕ → Bool
starts_at known zero = true
starts_at known (suc h) = same_number (get_or known h (pos 1)) (pos 0)

-- a hint is the place where a clause starts
unfoldable pub hint_outcome : ℕ → List ℤ → (ℤ → Bool) → ℕ → Outcome
hint_outcome n known isFalse h = cond (starts_at known h) (first_outcome n isFalse (clauses_in (drop h known))) undecided

-- the hints in their order, up to a conflict: the opposite of each unit is false too
unfoldable pub propagates : ℕ → List ℤ → (ℤ → Bool) → List ℕ → Bool
propagates n known isFalse [] = false
propagates n known isFalse (h ∷ hs) =
    elim (hint_outcome n known isFalse h) [
      | conflict ↦ true
      | unit z ↦ propagates n known (λ y. same_number y (neg_ℤ z) || isFalse y) hs
      | undecided ↦ false
    ]

-- whether a lemma follows, by its hints, from the clauses in the numbers before it
unfoldable pub follows : ℕ → List ℤ → List ℤ → List ℕ → Bool
follows n known lemma hints = every (within n) lemma && propagates n known (λ z. among z lemma) hints
