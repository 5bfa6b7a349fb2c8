-- Where a check says refuted, no assignment makes all clauses of the formula true: each lemma that follows is true where they are, and the
-- empty one never is. No contract cites this file.
use Prim.Native.Nat.{ℕ, zero, suc}
use mathlib.Core.Path.{◌≡◌, refl}
use mathlib.Core.Bool.{Bool, true, false, cond, ◌&&◌, false≢true}
use mathlib.Core.List.{List, [], ◌∷◌, ◌++◌, append_assoc, append-nil}
use mathlib.Core.Logic.{inr}
use native.Mathlib.Omega.{arith}
use borrow.Author.Tests.{eqb-true}
use lib.Dec.{eqb, leb}
use lib.IntN.{ℤ, pos, negsuc}
use lib.ListN.{length, take, drop}
use Rattle.model.specs.Numbers.{split_after, clauses_in, Assignment, number_true, clause_true, all_true}
use Rattle.model.proofs.Booleans.{and-true, or-true}
use Rattle.model.proofs.Gather.{All, nothing, also}
use Rattle.refutation_hints.specs.Propagation.{every, follows}
use Rattle.refutation_hints.proofs.Clauses.{is_number, NumbersOnly, clauses_in-numbers_only}
use Rattle.refutation_hints.proofs.Soundness.{follows-true}
use Rattle.refutation_lemmas.specs.Refutation.{checked_from, checked, Unsatisfiable}
use Rattle.refutation_lemmas.specs.declared.Checked.{Checked}
use Rattle.refutation_lemmas.specs.declared.Checked.TheVariants.{Refuted, Unjustified}

module _ (a : Assignment) where
  -- a lemma more
  append-true : (begun x : List ℤ) → clause_true a x ≡ true → clause_true a (begun ++ x) ≡ true
  unfolding clause_true
  append-true [] x e = e
  append-true (z ∷ begun) x e = (or-true (number_true a z) (clause_true a (begun ++ x))).1 (inr (append-true begun x e))

  last-true : (begun x : List ℤ) → NumbersOnly x → clause_true a (begun ++ x) ≡ true → all_true a (split_after begun (x ++ pos 0 ∷ [])) ≡ true
  unfolding NumbersOnly every is_number split_after all_true
  last-true begun [] h e = (and-true (clause_true a begun) true).1 (rw append-nil at e, refl)
  last-true begun (pos zero ∷ x) h e = absurd (false≢true h)
  last-true begun (pos (suc v) ∷ x) h e = last-true (begun ++ pos (suc v) ∷ []) x h (rw (append_assoc begun (pos (suc v) ∷ []) x) e)
  last-true begun (negsuc v ∷ x) h e = last-true (begun ++ negsuc v ∷ []) x h (rw (append_assoc begun (negsuc v ∷ []) x) e)

  more-true : (begun known x : List ℤ) → NumbersOnly x → clause_true a x ≡ true → all_true a (split_after begun known) ≡ true
      → all_true a (split_after begun (known ++ x ++ pos 0 ∷ [])) ≡ true
  unfolding split_after all_true
  more-true begun [] x h t e = last-true begun x h (append-true begun x t)
  more-true begun (pos zero ∷ known) x h t e =
      let both = (and-true (clause_true a begun) (all_true a (split_after [] known))).0 e in
      (and-true (clause_true a begun) (all_true a (split_after [] (known ++ x ++ pos 0 ∷ [])))).1 (both.0, more-true [] known x h t both.1)
  more-true begun (pos (suc v) ∷ known) x h t e = more-true (begun ++ pos (suc v) ∷ []) known x h t e
  more-true begun (negsuc v ∷ known) x h t e = more-true (begun ++ negsuc v ∷ []) known x h t e

  not-refuted : (i : ℕ) → Unjustified i ≡ Refuted → ⊥
  not-refuted i e = let z : ◌≡◌ {A = ℕ} 0 1 = cc in omega arith

  empty : (x : List ℤ) → length x ≡ 0 → clause_true a x ≡ true → ⊥
  unfolding clause_true
  empty [] l t = false≢true t
  empty (z ∷ x) l t = omega arith

  from-refuted : (n : ℕ) (known : List ℤ) (xs : List (List ℤ)) (hints : List ℕ) (i : ℕ) → All NumbersOnly xs → all_true a (clauses_in known) ≡ true
      → checked_from n known xs hints i ≡ Refuted → ⊥
  unfolding checked_from clauses_in
  from-refuted n known [] hints i nothing e r = not-refuted i r
  from-refuted n known (x ∷ xs) [] i (also h all) e r = not-refuted i r
  from-refuted n known (x ∷ xs) (count ∷ hints) i (also h all) e r =
      go (leb count (length hints) && follows n known x (take count hints)) refl (eqb (length x) 0) refl
      (λ t. from-refuted n (known ++ x ++ pos 0 ∷ []) xs (drop count hints) (suc i) all (more-true [] known x h t e)) r
    where
      rest : Checked
      rest = checked_from n (known ++ x ++ pos 0 ∷ []) xs (drop count hints) (suc i)

      holds : (leb count (length hints) && follows n known x (take count hints)) ≡ true → clause_true a x ≡ true
      holds f = follows-true a n known x (take count hints) ((and-true (leb count (length hints)) (follows n known x (take count hints))).0 f).1 e

      go : (p : Bool) → (leb count (length hints) && follows n known x (take count hints)) ≡ p → (q : Bool) → eqb (length x) 0 ≡ q
          → (clause_true a x ≡ true → rest ≡ Refuted → ⊥) → cond p (cond q Refuted rest) (Unjustified i) ≡ Refuted → ⊥
      go true f true l more s = empty x (eqb-true (length x) 0 l) (holds f)
      go true f false l more s = more (holds f) s
      go false f q l more s = not-refuted i s

pub refuted-unsatisfiable : (n : ℕ) (formula lemmas : List ℤ) (hints : List ℕ) → checked n formula lemmas hints ≡ Refuted → Unsatisfiable formula
unfolding checked
refuted-unsatisfiable n formula lemmas hints r a e = from-refuted a n formula (clauses_in lemmas) hints 0 (clauses_in-numbers_only lemmas) e r
