-- A lemma that follows by hints is true where all clauses before it are. No contract cites this file.
use Prim.Native.Nat.{ℕ, zero, suc}
use mathlib.Core.Path.{◌≡◌, refl, ap, ◌∙◌}
use mathlib.Core.Bool.{Bool, true, false, cond, not, ◌||◌, false≢true}
use mathlib.Core.List.{List, [], ◌∷◌, ◌++◌}
use mathlib.Core.Logic.{⊎_elim}
use native.Mathlib.Omega.{arith}
use borrow.Author.Tests.{eqb-true, not-true}
use lib.IntN.{ℤ, pos, negsuc, neg_ℤ}
use lib.ListN.{drop}
use Rattle.model.specs.Numbers.{split_after, clauses_in, Assignment, number_true, clause_true, all_true}
use Rattle.model.proofs.Booleans.{and-true, or-true, neither-true}
use Rattle.model.proofs.Gather.{All, nothing, also}
use Rattle.answer_signs.specs.Signs.{same_number, among}
use Rattle.refutation_hints.specs.Propagation.{every, within, free_of, Outcome, conflict, unit, undecided, outcome_of, first_outcome, starts_at, hint_outcome, propagates, follows}
use Rattle.refutation_hints.proofs.Marks.{same-equal}
use Rattle.refutation_hints.proofs.Clauses.{is_number, NumbersOnly, clauses_in-numbers_only}
use Rattle.refutation_hints.proofs.Outcomes.{every-free}

module _ (a : Assignment) where
  -- what is known to be false is false
  Falsifies : (ℤ → Bool) → Type 0
  Falsifies f = (z : ℤ) → f z ≡ true → number_true a z ≡ false

  opposite-false : (z : ℤ) → is_number z ≡ true → number_true a z ≡ true → number_true a (neg_ℤ z) ≡ false
  unfolding is_number number_true
  opposite-false (pos zero) p e = absurd (false≢true p)
  opposite-false (pos (suc v)) p e = ap not e
  opposite-false (negsuc v) p e = not-true (a (suc v)) e

  -- a clause is as true as what is left of it
  free-true : (f : ℤ → Bool) → Falsifies f → (c : List ℤ) → clause_true a (free_of f c) ≡ clause_true a c
  unfolding Falsifies free_of clause_true
  free-true f known [] = refl
  free-true f known (z ∷ c) = go (f z) refl (free-true f known c)
    where
      go : (t : Bool) → f z ≡ t → clause_true a (free_of f c) ≡ clause_true a c
          → clause_true a (cond t (free_of f c) (z ∷ free_of f c)) ≡ (number_true a z || clause_true a c)
      go true e r = rw (known z e) r
      go false e r = ap (λ (t : Bool). number_true a z || t) r

  -- what an outcome says of a true clause
  Says : Outcome → Type 0
  Says conflict = ⊥
  Says (unit z) = (is_number z ≡ true) × (number_true a z ≡ true)
  Says undecided = Unit

  one-true : (z : ℤ) (zs : List ℤ) → every (same_number z) zs ≡ true → clause_true a zs ≡ true → number_true a z ≡ true
  unfolding every clause_true
  one-true z [] s e = absurd (false≢true e)
  one-true z (y ∷ ys) s e =
      let both = (and-true (same_number z y) (every (same_number z) ys)).0 s in
      ⊎_elim (λ (p : number_true a y ≡ true). rw (same-equal z y both.0) p)
      (λ (p : clause_true a ys ≡ true). one-true z ys both.1 p) ((or-true (number_true a y) (clause_true a ys)).0 e)

  outcome-says : (free : List ℤ) → NumbersOnly free → clause_true a free ≡ true → Says (outcome_of free)
  unfolding Says outcome_of NumbersOnly every clause_true
  outcome-says [] h e = false≢true e
  outcome-says (z ∷ zs) h e = go (every (same_number z) zs) refl
    where
      go : (t : Bool) → every (same_number z) zs ≡ t → Says (cond t (unit z) undecided)
      go true s = (
        ((and-true (is_number z) (every is_number zs)).0 h).0,
        ⊎_elim (λ (p : number_true a z ≡ true). p) (λ (p : clause_true a zs ≡ true). one-true z zs s p) ((or-true (number_true a z) (clause_true a zs)).0 e),
      )
      go false s = tt

  first_says : (n : ℕ) (f : ℤ → Bool) → Falsifies f → (cs : List (List ℤ)) → All NumbersOnly cs → all_true a cs ≡ true → Says (first_outcome n f cs)
  unfolding Says first_outcome all_true NumbersOnly
  first_says n f known [] nothing e = tt
  first_says n f known (c ∷ cs) (also h r) e = go (every (within n) c)
    where
      go : (t : Bool) → Says (cond t (outcome_of (free_of f c)) undecided)
      go true =
          outcome-says (free_of f c) (every-free is_number f c h)
          (free-true f known c ∙ ((and-true (clause_true a c) (all_true a cs)).0 e).0)
      go false = tt

  -- the clauses from a place on, where one starts, are among all of them
  rest-true : (begun known : List ℤ) (h : ℕ) → starts_at known (suc h) ≡ true → all_true a (split_after begun known) ≡ true
      → all_true a (split_after [] (drop (suc h) known)) ≡ true
  unfolding starts_at split_after all_true same_number
  rest-true begun [] h s e = refl
  rest-true begun (pos zero ∷ known) zero s e = ((and-true (clause_true a begun) (all_true a (split_after [] known))).0 e).1
  rest-true begun (pos (suc v) ∷ known) zero s e = let z : ◌≡◌ {A = ℕ} (suc v) 0 = eqb-true (suc v) 0 s in absurd (omega arith)
  rest-true begun (negsuc v ∷ known) zero s e = absurd (false≢true s)
  rest-true begun (pos zero ∷ known) (suc h) s e =
      rest-true [] known h s ((and-true (clause_true a begun) (all_true a (split_after [] known))).0 e).1
  rest-true begun (pos (suc v) ∷ known) (suc h) s e = rest-true (begun ++ pos (suc v) ∷ []) known h s e
  rest-true begun (negsuc v ∷ known) (suc h) s e = rest-true (begun ++ negsuc v ∷ []) known h s e

  from-true : (known : List ℤ) (h : ℕ) → starts_at known h ≡ true → all_true a (clauses_in known) ≡ true → all_true a (clauses_in (drop h known)) ≡ true
  unfolding clauses_in
  from-true known zero s e = e
  from-true known (suc h) s e = rest-true [] known h s e

  hint-says : (n : ℕ) (known : List ℤ) (f : ℤ → Bool) (h : ℕ) → all_true a (clauses_in known) ≡ true → Falsifies f → Says (hint_outcome n known f h)
  unfolding Says hint_outcome
  hint-says n known f h e false-is = go (starts_at known h) refl
    where
      go : (t : Bool) → starts_at known h ≡ t → Says (cond t (first_outcome n f (clauses_in (drop h known))) undecided)
      go true s = first_says n f false-is (clauses_in (drop h known)) (clauses_in-numbers_only (drop h known)) (from-true known h s e)
      go false s = tt

  -- no conflict comes of what holds
  no-conflict : (n : ℕ) (known : List ℤ) (f : ℤ → Bool) (hs : List ℕ) → all_true a (clauses_in known) ≡ true → Falsifies f
      → propagates n known f hs ≡ true → ⊥
  unfolding propagates Says Falsifies
  no-conflict n known f [] e false-is p = false≢true p
  no-conflict n known f (h ∷ hs) e false-is p =
      go (hint_outcome n known f h) (hint-says n known f h e false-is) (λ g i q. no-conflict n known g hs e i q) p
    where
      go : (o : Outcome) → Says o → ((g : ℤ → Bool) → Falsifies g → propagates n known g hs ≡ true → ⊥)
          → elim o [
            | conflict ↦ true
            | unit z ↦ propagates n known (λ y. same_number y (neg_ℤ z) || f y) hs
            | undecided ↦ false
          ] ≡ true → ⊥
      go conflict s rest q = s
      go (unit z) s rest q =
          rest (λ y. same_number y (neg_ℤ z) || f y)
          (λ y t.
          ⊎_elim (λ (w : same_number y (neg_ℤ z) ≡ true). rw (same-equal y (neg_ℤ z) w) (opposite-false z s.0 s.1))
          (λ (w : f y ≡ true). false-is y w) ((or-true (same_number y (neg_ℤ z)) (f y)).0 t))
          q
      go undecided s rest q = false≢true q

  among-false : (z : ℤ) (x : List ℤ) → clause_true a x ≡ false → among z x ≡ true → number_true a z ≡ false
  unfolding among clause_true
  among-false z [] e m = absurd (false≢true m)
  among-false z (y ∷ x) e m =
      let both = (neither-true (number_true a y) (clause_true a x)).0 e in
      ⊎_elim (λ (w : same_number z y ≡ true). rw (same-equal z y w) both.0) (λ (w : among z x ≡ true). among-false z x both.1 w)
      ((or-true (same_number z y) (among z x)).0 m)

  -- a lemma that follows is true where all clauses before it are
  pub follows-true : (n : ℕ) (known x : List ℤ) (hs : List ℕ) → follows n known x hs ≡ true → all_true a (clauses_in known) ≡ true → clause_true a x ≡ true
  unfolding follows Falsifies
  follows-true n known x hs p e = go (clause_true a x) refl
    where
      go : (t : Bool) → clause_true a x ≡ t → t ≡ true
      go true c = refl
      go false c =
          absurd (no-conflict n known (λ z. among z x) hs e (λ z m. among-false z x c m) ((and-true (every (within n) x) (propagates n known (λ z. among z x) hs)).0 p).1)
