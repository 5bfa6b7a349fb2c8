-- Laws of unpacking: one record more at its place, and what a list is, all unpacked. No contract cites this file.
use Prim.Native.Nat.{ℕ, zero, suc, ◌+◌, ◌*◌, ◌≤◌, ◌<◌}
use mathlib.Core.Path.{◌≡◌, refl, sym, ◌∙◌, ap}
use mathlib.Core.Bool.{Bool, true, false}
use mathlib.Core.List.{List, [], ◌∷◌, ◌++◌}
use native.Mathlib.Omega.{arith}
use native.Mathlib.Nat.{not-suc-le-zero, le_of_suc-le-suc}
use borrow.Author.Tests.{ltb-true, ltb-false}
use lib.Dec.{ltb}
use lib.ListN.{length, take, drop, get_or, replicate}
use lib.Seq.{drop-nil, take_all, take-length, length-take-le}
use Rattle.call_lists.specs.Unpacked.{pairs_of}
use Rattle.netlist.specs.NetOf.{put_numbers}
use Rattle.call_lists.specs.Unpacking.{bounded, span_of}
use Rattle.model.specs.Wrote.{over}

-- no more records are looked at than there are, and no more than 600
pub span-within : (n : ℕ) → (span_of n ≤ n) × (span_of n ≤ 600)
unfolding span_of
span-within n = within (ltb n 600) refl
  where
    within : (t : Bool) → ltb n 600 ≡ t → (bounded t n ≤ n) × (bounded t n ≤ 600)
    within true e = let h = ltb-true n 600 e in (omega arith, omega (arith, h))
    within false e = let h = ltb-false n 600 e in (omega (arith, h), omega arith)

module _ {X : Type 0} (first second : X → ℕ) where
  length-pairs_of : (xs : List X) → length (pairs_of first second xs) ≡ 2 * length xs
  unfolding pairs_of
  length-pairs_of [] = refl
  length-pairs_of (x ∷ xs) = ap (λ n. suc (suc n)) (length-pairs_of xs) ∙ omega arith

  -- the first i records unpacked, and what was there behind them
  abbrev pub unpacked_to : List X → List ℕ → ℕ → List ℕ
  unpacked_to xs old i = pairs_of first second (take i xs) ++ drop (2 * i) old

  pub unpacked_to-none : (xs : List X) (old : List ℕ) → unpacked_to xs old 0 ≡ old
  unfolding pairs_of
  unpacked_to-none xs old = refl

  twice-suc : (j : ℕ) → 2 * suc j ≡ suc (suc (2 * j))
  twice-suc j = omega arith

  after-suc : (j : ℕ) → 2 * suc j + 1 ≡ suc (suc (2 * j + 1))
  after-suc j = omega arith

  at_suc : (xs : List X) (none : X) (old : List ℕ) (i : ℕ) → i < length xs → 2 * i + 2 ≤ length old
      → put_numbers i (first (get_or xs i none)) (second (get_or xs i none)) (unpacked_to xs old i) ≡ unpacked_to xs old (suc i)
  unfolding pairs_of put_numbers
  at_suc [] none old i h g = absurd (not-suc-le-zero h)
  at_suc (x ∷ xs) none [] i h g = absurd (omega (arith, g))
  at_suc (x ∷ xs) none (u ∷ []) i h g = absurd (omega (arith, g))
  at_suc (x ∷ xs) none (u ∷ w ∷ old) zero h g = refl
  at_suc (x ∷ xs) none (u ∷ w ∷ old) (suc j) h g =
      rw (after-suc j, twice-suc (suc j), twice-suc j) (ap (λ zs. first x ∷ second x ∷ zs)
      (at_suc xs none old j (le_of_suc-le-suc h) (omega (arith, g)) ∙ ap
      (λ k. pairs_of first second (take (suc j) xs) ++ drop k old) (twice-suc j)))

  pub unpacked_to-next : (xs : List X) (none : X) (old : List ℕ) (i : ℕ) → i < length xs → 2 * i + 2 ≤ length old
      → put_numbers i (first (get_or xs i none)) (second (get_or xs i none)) (unpacked_to xs old i) ≡ unpacked_to xs old (i + 1)
  unpacked_to-next xs none old i h g = at_suc xs none old i h g ∙ ap (unpacked_to xs old) (let e : suc i ≡ i + 1 = omega arith in e)

  -- the records that are looked at are the first 600
  span-take : (xs : List X) (t : Bool) → ltb (length xs) 600 ≡ t
      → (take (span_of (length xs)) xs ≡ take 600 xs) × (length (take 600 xs) ≡ span_of (length xs))
  unfolding span_of
  span-take xs true e = let h = ltb-true (length xs) 600 e in rw (e, take-length xs, take_all 600 xs (omega (arith, h)))
      (refl, refl)
  span-take xs false e = rw e (refl, length-take-le 600 xs (ltb-false (length xs) 600 e))

  pub unpacked_to-all : (xs : List X) (old : List ℕ) → unpacked_to xs old (span_of (length xs)) ≡ over
      (pairs_of first second (take 600 xs)) old
  unpacked_to-all xs old =
      let all = span-take xs (ltb (length xs) 600) refl in
      rw (all.0, length-pairs_of (take 600 xs), all.1)

-- a list unpacked over zeros holds what the list holds, and zeros behind it
get_or-zeros : (n i : ℕ) → ◌≡◌ {A = ℕ} (get_or (replicate n 0) i 0) 0
get_or-zeros zero i = refl
get_or-zeros (suc n) zero = refl
get_or-zeros (suc n) (suc i) = get_or-zeros n i

pub get_d_over : (codes : List ℕ) (n i : ℕ) → get_or (over codes (replicate n 0)) i 0 ≡ get_or codes i 0
get_d_over [] n i = get_or-zeros n i
get_d_over (c ∷ cs) n zero = refl
get_d_over (c ∷ cs) zero (suc i) = ap (λ zs. get_or (cs ++ zs) i 0) (sym (drop-nil (length cs))) ∙ get_d_over cs zero i
get_d_over (c ∷ cs) (suc n) (suc i) = get_d_over cs n i
