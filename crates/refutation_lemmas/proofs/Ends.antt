-- Laws of specs/Ends.antt: the first clause of a list of numbers ends there, and one number more before that. No contract cites this file.
use Prim.Native.Nat.{ℕ, zero, suc, ◌+◌, ◌≤◌, ◌<◌}
use mathlib.Core.Path.{◌≡◌, refl, ap, ◌∙◌}
use mathlib.Core.List.{List, [], ◌∷◌, ◌++◌}
use native.Mathlib.Omega.{arith}
use lib.IntN.{ℤ, pos, negsuc}
use lib.ListN.{length, take, drop, drop_of_length-le}
use Rattle.model.specs.Numbers.{split_after, clauses_in}
use Rattle.refutation_hints.specs.Marks.{slot_of}
use Rattle.refutation_hints.proofs.Marks.{slot-zero}
use Rattle.refutation_hints.proofs.Clauses.{on_first, split-first}
use Rattle.refutation_lemmas.specs.Ends.{before_end}

-- the first clause is what stands before the first end mark; where there is no end mark, there is no clause
pub first-clause : (zs : List ℤ) → before_end zs < length zs
    → clauses_in zs ≡ take (before_end zs) zs ∷ clauses_in (drop (suc (before_end zs)) zs)
unfolding before_end clauses_in split_after on_first
first-clause [] l = absurd (omega arith)
first-clause (pos zero ∷ zs) l = refl
first-clause (pos (suc v) ∷ zs) l = split-first (pos (suc v) ∷ []) zs ∙ ap (on_first (pos (suc v) ∷ [])) (first-clause zs (omega arith))
first-clause (negsuc v ∷ zs) l = split-first (negsuc v ∷ []) zs ∙ ap (on_first (negsuc v ∷ [])) (first-clause zs (omega arith))

pub no-clause : (zs : List ℤ) → length zs ≤ before_end zs → clauses_in zs ≡ []
unfolding before_end clauses_in split_after on_first
no-clause [] l = refl
no-clause (pos zero ∷ zs) l = absurd (omega arith)
no-clause (pos (suc v) ∷ zs) l = split-first (pos (suc v) ∷ []) zs ∙ ap (on_first (pos (suc v) ∷ [])) (no-clause zs (omega arith))
no-clause (negsuc v ∷ zs) l = split-first (negsuc v ∷ []) zs ∙ ap (on_first (negsuc v ∷ [])) (no-clause zs (omega arith))

-- an end mark follows it
pub clause-ended : (zs : List ℤ) → before_end zs < length zs → take (suc (before_end zs)) zs ≡ take (before_end zs) zs ++ pos 0 ∷ []
unfolding before_end
clause-ended [] l = absurd (omega arith)
clause-ended (pos zero ∷ zs) l = refl
clause-ended (pos (suc v) ∷ zs) l = ap (λ (x : List ℤ). pos (suc v) ∷ x) (clause-ended zs (omega arith))
clause-ended (negsuc v ∷ zs) l = ap (λ (x : List ℤ). negsuc v ∷ x) (clause-ended zs (omega arith))

-- a first number that is an end mark, or one number more before the first
pub before_end-mark : (z : ℤ) (zs : List ℤ) → slot_of z ≡ 0 → before_end (z ∷ zs) ≡ 0
unfolding before_end
before_end-mark z zs e = rw (slot-zero z e)

pub before_end-number : (z : ℤ) (zs : List ℤ) → (slot_of z ≡ 0 → ⊥) → before_end (z ∷ zs) ≡ before_end zs + 1
unfolding before_end
before_end-number (pos zero) zs h = absurd (h refl)
before_end-number (pos (suc v)) zs h = omega arith
before_end-number (negsuc v) zs h = omega arith

pub ended : (zs : List ℤ) (i : ℕ) → length zs ≤ i → before_end (drop i zs) ≡ 0
unfolding before_end
ended zs i l = rw (drop_of_length-le zs l)
