-- Forwarding over an abstract chain of writes, without codes or variables: what the chain of `none` selects is the newest earlier
-- write, and that is what a memory stepped through the same writes holds. Ganai et al. 2004, equations (1) and (3).
-- No contract cites this file.
use Prim.Native.Nat.{ℕ, zero, suc, ◌+◌, ◌-◌, ◌<◌, ◌≤◌}
use mathlib.Core.Path.{◌≡◌, refl, sym, ◌∙◌, ap, subst}
use mathlib.Core.Bool.{Bool, true, false, cond, not, ◌&&◌, and-false}
use mathlib.Core.Logic.{◌⊎◌, inl, inr, ⊎_map, ⊎_elim}
use native.Mathlib.Nat.{le_step, lt-suc_self, le_of_suc-le, sub_self, eq-or-lt_of_le}
use native.Mathlib.Omega.{arith}
use borrow.Author.Tests.{not-true}
use Rattle.model.proofs.Booleans.{and-true}

-- one word of the memory before frame i: frame j writes `word j` to it where `hit j`
unfoldable pub stepped : ℕ → (ℕ → Bool) → (ℕ → ℕ) → ℕ → ℕ
stepped start hit word zero = start
stepped start hit word (suc i) = cond (hit i) (word i) (stepped start hit word i)

-- `none j` says, for j ≤ i, that frame i reads and no frame from j on writes the word: `none i` is RE.
pub record Chain (i : ℕ) (hit none : ℕ → Bool) : Type 0 where
  pub link : (j : ℕ) → j < i → none j ≡ (not (hit j) && none (suc j))

-- the chain that the writes and RE make: from j, over the d frames up to i
unfoldable pub none_over : (ℕ → Bool) → Bool → ℕ → ℕ → Bool
none_over hit RE zero j = RE
none_over hit RE (suc d) j = not (hit j) && none_over hit RE d (suc j)

unfoldable pub none_from : (ℕ → Bool) → Bool → ℕ → ℕ → Bool
none_from hit RE i j = none_over hit RE (i - j) j

pub none_from-last : (hit : ℕ → Bool) (RE : Bool) (i : ℕ) → none_from hit RE i i ≡ RE
unfolding none_from none_over
none_from-last hit RE i = rw (sub_self i)

pub none_from-chain : (hit : ℕ → Bool) (RE : Bool) (i : ℕ) → Chain i hit (none_from hit RE i)
unfolding none_from none_over
none_from-chain hit RE i =
    record { link = λ j b. let e : i - j ≡ suc (i - suc j) = omega arith in rw e }

module _ (i : ℕ) (hit none : ℕ → Bool) (chain : Chain i hit none) (start : ℕ) (word : ℕ → ℕ) where
  -- What holds of the word of each write that is selected, and of the start word if that is, holds of the word read.
  pub selected-read : (R : ℕ → Type 0) → (none 0 ≡ true → R start)
      → ((j : ℕ) → j < i → (hit j && none (suc j)) ≡ true → R (word j))
      → (j : ℕ) → j ≤ i → none j ≡ true → R (stepped start hit word j)
  unfolding stepped
  selected-read R first each zero b h = first h
  selected-read R first each (suc j) b h =
      go (hit j) refl (selected-read R first each j (le_of_suc-le b))
    where
      go : (x : Bool) → hit j ≡ x → (none j ≡ true → R (stepped start hit word j)) → R (cond (hit j) (word j) (stepped start hit word j))
      go true e r = rw e (each j b ((and-true (hit j) (none (suc j))).1 (e, h)))
      go false e r = rw e (r (chain.link j b ∙ rw (e, h)))

  -- Where no frame from j on writes the word, it is what it was before frame j.
  pub none-unchanged : (d j : ℕ) → j + d ≡ i → none j ≡ true → (stepped start hit word i ≡ stepped start hit word j) × (none i ≡ true)
  unfolding stepped
  none-unchanged zero j e h =
      let q : j ≡ i = omega arith in
      (ap (stepped start hit word) (sym q), subst (λ (x : ℕ). none x ≡ true) q h)
  none-unchanged (suc d) j e h =
      let both = (and-true (not (hit j)) (none (suc j))).0 (sym (chain.link j (omega arith)) ∙ h) in
      let later = none-unchanged d (suc j) (omega arith) both.1 in
      (later.0 ∙ rw (not-true (hit j) both.0), later.1)

  -- A read has some source: the start word or a write.
  pub source-exists : (j : ℕ) → j ≤ i → none j ≡ true
      → (none 0 ≡ true) ⊎ ((x : ℕ) × (x < j) × ((hit x && none (suc x)) ≡ true))
  source-exists zero b h = inl h
  source-exists (suc j) b h = go (hit j) refl (source-exists j (le_of_suc-le b))
    where
      go : (x : Bool) → hit j ≡ x → (none j ≡ true → (none 0 ≡ true) ⊎ ((x : ℕ) × (x < j) × ((hit x && none (suc x)) ≡ true))) → (none 0 ≡ true) ⊎ ((x : ℕ) × (x < suc j) × ((hit x && none (suc x)) ≡ true))
      go true e r = inr (j, lt-suc_self j, (and-true (hit j) (none (suc j))).1 (e, h))
      go false e r = ⊎_map (λ z. z) (λ p. (p.0, le_step p.1, p.2)) (r (chain.link j b ∙ rw (e, h)))

-- what a chain says of the writes
module _ (i : ℕ) (hit none : ℕ → Bool) (chain : Chain i hit none) where
  -- where no frame from j on writes the word, none of them does
  pub none-clear : (d j : ℕ) → j + d ≡ i → none j ≡ true → (l : ℕ) → j ≤ l → l < i → hit l ≡ false
  none-clear zero j e h l lo hi = absurd (omega arith)
  none-clear (suc d) j e h l lo hi =
      let both = (and-true (not (hit j)) (none (suc j))).0 (sym (chain.link j (omega arith)) ∙ h) in
      ⊎_elim
      (λ (q : j ≡ l). subst (λ (x : ℕ). hit x ≡ false) q (not-true (hit j) both.0))
      (λ (q : j < l). none-clear d (suc j) (omega arith) both.1 l q hi) (eq-or-lt_of_le lo)

  -- a frame that does not read has no source
  pub none-idle : (d j : ℕ) → j + d ≡ i → none i ≡ false → none j ≡ false
  none-idle zero j e h = let q : j ≡ i = omega arith in subst (λ (x : ℕ). none x ≡ false) (sym q) h
  none-idle (suc d) j e h =
      chain.link j (omega arith) ∙ rw (none-idle d (suc j) (omega arith) h) (and-false (not (hit j)))
