-- Lists of one length joined, and taken apart again. No contract cites this file.
use Prim.Native.Nat.{ℕ, zero, suc, ◌+◌, ◌*◌, ◌<◌}
use mathlib.Core.Path.{◌≡◌, sym, ◌∙◌, ap}
use mathlib.Core.Logic.{by_cases}
use mathlib.Core.List.{List, [], ◌++◌, append_assoc, append-nil}
use native.Mathlib.Nat.{not-suc-le-zero}
use native.Mathlib.Decide.{dec_lt}
use native.Mathlib.Omega.{arith}
use lib.ListN.{length, take, drop}
use lib.Seq.{take_at, drop_at, take-add, take_all}
use Rattle.model.specs.Gather.{gather}
use Rattle.model.proofs.Gather.{length-gather}

module _ (d : ℕ) where
  -- one of the lists, whatever stands behind them all
  part-before : (n : ℕ) (f : ℕ → List ℕ) → ((t : ℕ) → t < n → length (f t) ≡ d) → (t : ℕ) → t < n → (rest : List ℕ)
      → take d (drop (d * t) (gather n f ++ rest)) ≡ f t
  unfolding gather
  part-before zero f each t h rest = absurd (not-suc-le-zero h)
  part-before (suc n) f each t h rest =
      rw (append_assoc (gather n f) (f n) rest)
      (by_cases (dec_lt t n)
      (λ s. part-before n f (λ u b. each u (omega arith)) t s (f n ++ rest))
      (λ s. here (omega arith)))
    where
      here : t ≡ n → take d (drop (d * t) (gather n f ++ (f n ++ rest))) ≡ f t
      here q =
          let size : length (gather n f) ≡ n * d = length-gather n d f (λ u b. each u (omega arith)) in
          rw (q, drop_at (gather n f) (f n ++ rest) (d * n) (omega (arith, size))) (take_at (f n) rest d (each n (omega arith)))

  pub part-gather : (n : ℕ) (f : ℕ → List ℕ) → ((t : ℕ) → t < n → length (f t) ≡ d) → (t : ℕ) → t < n
      → take d (drop (d * t) (gather n f)) ≡ f t
  part-gather n f each t h =
      ap (λ (s : List ℕ). take d (drop (d * t) s)) (sym (append-nil (gather n f))) ∙ part-before n f each t h []

  -- a list that is so long is its parts
  gather-parts : (n : ℕ) (s : List ℕ) → gather n (λ t. take d (drop (d * t) s)) ≡ take (d * n) s
  unfolding gather
  gather-parts zero s = let none : d * 0 ≡ 0 = omega arith in rw none
  gather-parts (suc n) s =
      let more : d * suc n ≡ d * n + d = omega arith in
      rw (gather-parts n s, more) (sym (take-add (d * n) d s))

  pub parts-gather : (n : ℕ) (s : List ℕ) → length s ≡ d * n → gather n (λ t. take d (drop (d * t) s)) ≡ s
  parts-gather n s l = gather-parts n s ∙ take_all (d * n) s (omega arith)
