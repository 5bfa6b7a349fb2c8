-- A check lemma by lemma: one lemma more in the store, and where lemmas or hints end. No contract cites this file.
use Prim.Native.Nat.{ℕ, suc, ◌+◌, ◌-◌, ◌≤◌, ◌<◌}
use mathlib.Core.Path.{◌≡◌, refl, sym, ap, ◌∙◌}
use mathlib.Core.Bool.{cond, ◌&&◌}
use mathlib.Core.List.{List, [], ◌∷◌, ◌++◌, append_assoc}
use native.Mathlib.Numerals.{add-one}
use native.Mathlib.Omega.{arith}
use borrow.Author.Tests.{eq-eqb, eqb-true}
use lib.Dec.{eqb, leb}
use lib.IntN.{ℤ, pos}
use lib.ListN.{length, get_or, take, drop, length-drop, drop_of_length-le}
use lib.Seq.{drop-cons, drop-drop, take-add, length-take-le}
use Rattle.model.specs.Numbers.{clauses_in}
use Rattle.model.proofs.Booleans.{iff-eq}
use Rattle.refutation_hints.specs.Propagation.{follows}
use Rattle.refutation_lemmas.specs.Refutation.{checked_from}
use Rattle.refutation_lemmas.specs.Ends.{before_end}
use Rattle.refutation_lemmas.specs.declared.Checked.TheVariants.{Refuted, Unjustified}
use Rattle.refutation_lemmas.proofs.Ends.{first-clause, no-clause, clause-ended}

-- a lemma between two places of the store, and what stands before the next
module _ (store : List ℤ) (at end : ℕ) (e : end ≡ at + before_end (drop at store)) (l : end < length store) where
  inside : before_end (drop at store) < length (drop at store)
  inside = simp length-drop (omega arith)

  long : end - at ≡ before_end (drop at store)
  long = omega arith

  clauses-here : clauses_in (drop at store) ≡ take (end - at) (drop at store) ∷ clauses_in (drop (end + 1) store)
  clauses-here =
      let next : at + suc (before_end (drop at store)) ≡ end + 1 = omega arith in
      rw long
      (first-clause (drop at store) inside
      ∙ ap (λ (zs : List ℤ). take (before_end (drop at store)) (drop at store) ∷ clauses_in zs)
      (drop-drop (suc (before_end (drop at store))) at store ∙ ap (λ (i : ℕ). drop i store) next))

  known-here : take (end + 1) store ≡ take at store ++ take (end - at) (drop at store) ++ pos 0 ∷ []
  known-here =
      let next : end + 1 ≡ at + suc (before_end (drop at store)) = omega arith in
      rw (next, long)
      (take-add at (suc (before_end (drop at store))) store
      ∙ ap (λ (zs : List ℤ). take at store ++ zs) (clause-ended (drop at store) inside)
      ∙ sym (append_assoc (take at store) (take (before_end (drop at store)) (drop at store)) (pos 0 ∷ [])))

  empty-here : eqb (length (take (end - at) (drop at store))) 0 ≡ eqb end at
  empty-here =
      let count : length (take (end - at) (drop at store)) ≡ end - at = length-take-le (end - at) (drop at store) (simp length-drop (omega arith)) in
      rw count
      (iff-eq (eqb (end - at) 0) (eqb end at) (λ h. let z = eqb-true (end - at) 0 h in eq-eqb end at (omega arith))
      (λ h. let z = eqb-true end at h in eq-eqb (end - at) 0 (omega arith)))

  -- the check of one lemma, and of those behind it
  pub checked-here : (n : ℕ) (hints : List ℕ) (i lemma : ℕ) → i < length hints
      → checked_from n (take at store) (clauses_in (drop at store)) (drop i hints) lemma
      ≡ cond
      (leb (get_or hints i 0) (length (drop (i + 1) hints))
      && follows n (take at store) (take (end - at) (drop at store)) (take (get_or hints i 0) (drop (i + 1) hints)))
      (cond (eqb end at) Refuted
      (checked_from n (take (end + 1) store) (clauses_in (drop (end + 1) store)) (drop (i + 1 + get_or hints i 0) hints) (lemma + 1))) (Unjustified lemma)
  unfolding checked_from
  checked-here n hints i lemma h =
      rw (clauses-here, drop-cons hints i 0 h, known-here, ← drop-drop (get_or hints i 0) (i + 1) hints, ← empty-here, add-one i, add-one lemma)

-- no lemma is left, or no hint
pub checked-none : (n : ℕ) (store : List ℤ) (at end : ℕ) → end ≡ at + before_end (drop at store) → length store ≤ end
    → (hints : List ℕ) (lemma : ℕ) → checked_from n (take at store) (clauses_in (drop at store)) hints lemma ≡ Unjustified lemma
unfolding checked_from
checked-none n store at end e l hints lemma = rw (no-clause (drop at store) (simp length-drop (omega arith)))

no-hints : (n : ℕ) (known : List ℤ) (xs : List (List ℤ)) (lemma : ℕ) → checked_from n known xs [] lemma ≡ Unjustified lemma
unfolding checked_from
no-hints n known [] lemma = refl
no-hints n known (x ∷ xs) lemma = refl

pub checked-over : (n : ℕ) (known : List ℤ) (xs : List (List ℤ)) (hints : List ℕ) (i lemma : ℕ) → length hints ≤ i
    → checked_from n known xs (drop i hints) lemma ≡ Unjustified lemma
checked-over n known xs hints i lemma l = rw (drop_of_length-le hints l) (no-hints n known xs lemma)
