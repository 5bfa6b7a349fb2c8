-- Laws of specs/Walk.antt: what it says of the clauses in the numbers, of joined lists and of weaker tests. No contract cites this file.
use Prim.Native.Nat.{zero, suc}
use mathlib.Core.Path.{◌≡◌, refl, sym, ◌∙◌, ap}
use mathlib.Core.Bool.{Bool, true, false, cond, ◌&&◌, ◌||◌}
use mathlib.Core.List.{List, [], ◌∷◌, ◌++◌}
use mathlib.Core.Logic.{◌⊎◌, inl, inr}
use lib.IntN.{ℤ, pos, negsuc}
use Rattle.model.specs.Numbers.{split_after, clauses_in, Assignment, number_true, clause_true, all_true}
use Rattle.model.proofs.Booleans.{and-true, or-true}
use Rattle.invariant_terms.specs.Walk.{is_end, holds_in}

-- one number more behind a clause
clause_true-snoc : (a : Assignment) (xs : List ℤ) (z : ℤ) → clause_true a (xs ++ z ∷ []) ≡ (clause_true a xs || number_true a z)
unfolding clause_true
clause_true-snoc a [] z = or-comm-false (number_true a z)
  where
    or-comm-false : (b : Bool) → (b || false) ≡ (false || b)
    or-comm-false true = refl
    or-comm-false false = refl
clause_true-snoc a (x ∷ xs) z = ap (λ (b : Bool). number_true a x || b) (clause_true-snoc a xs z) ∙ sym (or_assoc (number_true a x) (clause_true a xs) (number_true a z))
  where
    or_assoc : (p q r : Bool) → ((p || q) || r) ≡ (p || (q || r))
    or_assoc true q r = refl
    or_assoc false q r = refl

split-holds : (a : Assignment) (begun zs : List ℤ) → all_true a (split_after begun zs) ≡ holds_in (number_true a) (clause_true a begun) zs
unfolding split_after all_true holds_in is_end clause_true
split-holds a begun [] = refl
split-holds a begun (pos zero ∷ zs) = ap (λ (b : Bool). clause_true a begun && b) (split-holds a [] zs)
split-holds a begun (pos (suc v) ∷ zs) =
    split-holds a (begun ++ pos (suc v) ∷ []) zs ∙ ap (λ (b : Bool). holds_in (number_true a) b zs) (clause_true-snoc a begun (pos (suc v)))
split-holds a begun (negsuc v ∷ zs) =
    split-holds a (begun ++ negsuc v ∷ []) zs ∙ ap (λ (b : Bool). holds_in (number_true a) b zs) (clause_true-snoc a begun (negsuc v))

-- all clauses in the numbers are true
pub clauses-hold : (a : Assignment) (zs : List ℤ) → all_true a (clauses_in zs) ≡ holds_in (number_true a) false zs
unfolding clauses_in clause_true
clauses-hold a zs = split-holds a [] zs

-- a weaker test, where each number passes it that passes the first, and found where it was
pub holds-weaken : (t u : ℤ → Bool) (f g : Bool) (zs : List ℤ) → ((z : ℤ) → t z ≡ true → u z ≡ true) → (f ≡ true → g ≡ true)
    → holds_in t f zs ≡ true → holds_in u g zs ≡ true
unfolding holds_in
holds-weaken t u f g [] weaker found h = refl
holds-weaken t u f g (z ∷ zs) weaker found h =
    by (is_end z) (λ e. holds-weaken t u false false zs weaker (λ p. p) e) (λ e. holds-weaken t u (f || t z) (g || u z) zs weaker next e) h
  where
    go : (f ≡ true) ⊎ (t z ≡ true) → (g || u z) ≡ true
    go (inl p) = (or-true g (u z)).1 (inl (found p))
    go (inr p) = (or-true g (u z)).1 (inr (weaker z p))

    next : (f || t z) ≡ true → (g || u z) ≡ true
    next e = go ((or-true f (t z)).0 e)

    by : (b : Bool) → (holds_in t false zs ≡ true → holds_in u false zs ≡ true) → (holds_in t (f || t z) zs ≡ true → holds_in u (g || u z) zs ≡ true)
        → cond b (f && holds_in t false zs) (holds_in t (f || t z) zs) ≡ true → cond b (g && holds_in u false zs) (holds_in u (g || u z) zs) ≡ true
    by true behind on e =
        let parts = (and-true f (holds_in t false zs)).0 e in
        (and-true g (holds_in u false zs)).1 (found parts.0, behind parts.1)
    by false behind on e = on e

-- tests that agree
pub holds_same : (t u : ℤ → Bool) (f : Bool) (zs : List ℤ) → ((z : ℤ) → t z ≡ u z) → holds_in t f zs ≡ holds_in u f zs
unfolding holds_in
holds_same t u f [] same = refl
holds_same t u f (z ∷ zs) same = rw (same z, holds_same t u false zs same, holds_same t u (f || u z) zs same)
