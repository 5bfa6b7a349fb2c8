-- Laws of specs/Progress.antt: what is left of the test behind one number more. No contract cites this file.
use Prim.Native.Nat.{ℕ, zero, suc, ◌+◌, ◌≤◌, ◌<◌}
use mathlib.Core.Path.{◌≡◌, refl}
use mathlib.Core.Bool.{Bool, true, false, cond, ◌&&◌, ◌||◌, false≢true}
use mathlib.Core.List.{List, [], ◌∷◌}
use native.Mathlib.Numerals.{add-one}
use native.Mathlib.Omega.{arith}
use lib.Dec.{eqb}
use lib.IntN.{ℤ, pos, negsuc}
use lib.ListN.{length, get_or, drop, drop_of_length-le}
use lib.Seq.{drop-cons}
use borrow.Author.Tests.{lt-ltb}
use Rattle.model.specs.Netlist.{Netlist}
use Rattle.refutation_hints.specs.Propagation.{every, within}
use Rattle.invariant_terms.specs.StateBits.{state_count}
use Rattle.invariant_terms.specs.Walk.{is_end, holds_in}
use Rattle.invariant_formula.specs.AtStart.{number_starts, holds_at_start}
use Rattle.invariant_start.specs.Progress.{progress}

module _ (c : Netlist) where
  abbrev inside : ℤ → Bool
  inside = within (suc (state_count c))

  -- what the test says of numbers, where it stands so
  unfoldable pub left : ℕ → List ℤ → Bool
  left zero zs = false
  left (suc zero) zs = every inside zs && holds_in (number_starts c) false zs
  left (suc (suc k)) zs = every inside zs && holds_in (number_starts c) true zs

  pub left-start : (zs : List ℤ) → left 1 zs ≡ holds_at_start c zs
  unfolding left holds_at_start
  left-start zs = refl

  left_end : (state : ℕ) → 1 ≤ state → left state [] ≡ true
  unfolding left every holds_in
  left_end zero h = absurd (omega arith)
  left_end (suc zero) h = refl
  left_end (suc (suc k)) h = refl

  end-inside : (z : ℤ) → is_end z ≡ true → inside z ≡ true
  unfolding is_end within
  end-inside (pos zero) e = lt-ltb 0 (suc (state_count c)) (omega arith)
  end-inside (pos (suc v)) e = absurd (false≢true e)
  end-inside (negsuc v) e = absurd (false≢true e)

  and-false : (p : Bool) → (p && false) ≡ false
  and-false true = refl
  and-false false = refl

  -- one number more
  next-none : (z : ℤ) (zs : List ℤ) → left 1 (z ∷ zs) ≡ left (progress c 1 z) zs
  unfolding progress left every holds_in
  next-none z zs = go (is_end z) refl (inside z) refl (number_starts c z) refl
    where
      go : (p : Bool) → is_end z ≡ p → (q : Bool) → inside z ≡ q → (r : Bool) → number_starts c z ≡ r
          → ((inside z && every inside zs) && cond (is_end z) (false && holds_in (number_starts c) false zs) (holds_in (number_starts c) (false || number_starts c z) zs))
          ≡ left (cond (is_end z) (cond (eqb 1 2) 1 0) (cond (inside z) (cond (number_starts c z) 2 1) 0)) zs
      go true ep q eq r er = rw (ep, end-inside z ep) (and-false (every inside zs))
      go false ep true eq true er = rw (ep, eq, er)
      go false ep true eq false er = rw (ep, eq, er)
      go false ep false eq r er = rw (ep, eq)

  next-found : (z : ℤ) (zs : List ℤ) → left 2 (z ∷ zs) ≡ left (progress c 2 z) zs
  unfolding progress left every holds_in
  next-found z zs = go (is_end z) refl (inside z) refl (number_starts c z) refl
    where
      go : (p : Bool) → is_end z ≡ p → (q : Bool) → inside z ≡ q → (r : Bool) → number_starts c z ≡ r
          → ((inside z && every inside zs) && cond (is_end z) (true && holds_in (number_starts c) false zs) (holds_in (number_starts c) (true || number_starts c z) zs))
          ≡ left (cond (is_end z) (cond (eqb 2 2) 1 0) (cond (inside z) (cond (number_starts c z) 2 2) 0)) zs
      go true ep q eq r er = rw (ep, end-inside z ep)
      go false ep true eq true er = rw (ep, eq, er)
      go false ep true eq false er = rw (ep, eq, er)
      go false ep false eq r er = rw (ep, eq)

  left-next : (state : ℕ) (z : ℤ) (zs : List ℤ) → 1 ≤ state → state ≤ 2 → left state (z ∷ zs) ≡ left (progress c state z) zs
  left-next zero z zs h l = absurd (omega arith)
  left-next (suc zero) z zs h l = next-none z zs
  left-next (suc (suc zero)) z zs h l = next-found z zs
  left-next (suc (suc (suc k))) z zs h l = absurd (omega arith)

  pub left_at : (state : ℕ) (zs : List ℤ) (i : ℕ) → 1 ≤ state → state ≤ 2 → i < length zs
      → left state (drop i zs) ≡ left (progress c state (get_or zs i (pos 0))) (drop (i + 1) zs)
  left_at state zs i h l b = rw (add-one, drop-cons zs i (pos 0) b) (left-next state (get_or zs i (pos 0)) (drop (suc i) zs) h l)

  pub left-past : (state : ℕ) (zs : List ℤ) (i : ℕ) → 1 ≤ state → length zs ≤ i → left state (drop i zs) ≡ true
  left-past state zs i h b = rw (drop_of_length-le zs b) (left_end state h)

  pub left-failed : (zs : List ℤ) → left 0 zs ≡ false
  unfolding left
  left-failed zs = refl

  pub progress-most : (state : ℕ) (z : ℤ) → state ≤ 2 → progress c state z ≤ 2
  unfolding progress
  progress-most state z h = go (is_end z) (eqb state 2) (within (suc (state_count c)) z) (number_starts c z)
    where
      go : (p q r t : Bool) → cond p (cond q 1 0) (cond r (cond t 2 state) 0) ≤ 2
      go true true r t = omega arith
      go true false r t = omega arith
      go false q true true = omega arith
      go false q true false = h
      go false q false t = omega arith
