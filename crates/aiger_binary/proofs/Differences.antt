-- Differences at the start of bytes (aiger_difference/proofs/Decoding.antt): what stands behind them. No contract cites this file.
use Prim.Native.Nat.{ℕ, zero, suc, ◌+◌, ◌*◌}
use mathlib.Core.Path.{◌≡◌, refl, ◌∙◌, ap}
use mathlib.Core.List.{List, ◌++◌, append_assoc}
use native.Mathlib.Nat.{add-zero, add-suc}
use native.Mathlib.Omega.{arith}
use Rattle.model.specs.Gather.{gather}
use Rattle.aiger_difference.specs.Difference.{difference_bytes}
use Rattle.aiger_difference.proofs.Decoding.{behind_difference, behind_differences}
use Rattle.aiger_difference.proofs.Difference.{difference-behind}

-- behind so many more
behind_more : (k j : ℕ) (s : List ℕ) → behind_differences (k + j) s ≡ behind_differences j (behind_differences k s)
unfolding behind_differences
behind_more k zero s = rw (add-zero k)
behind_more k (suc j) s = rw (add-suc k j) (ap behind_difference (behind_more k j s))

-- bytes that are k differences, whatever stands behind them
abbrev pub Differences : ℕ → List ℕ → Type 0
Differences k bytes = (rest : List ℕ) → behind_differences k (bytes ++ rest) ≡ rest

pub one-difference : (x : ℕ) → Differences 1 (difference_bytes x)
unfolding behind_differences
one-difference x rest = difference-behind rest x

pub differences-append : (k j : ℕ) (s t : List ℕ) → Differences k s → Differences j t → Differences (k + j) (s ++ t)
differences-append k j s t a b rest =
    rw (append_assoc s t rest) (behind_more k j (s ++ (t ++ rest)) ∙ ap (behind_differences j) (a (t ++ rest)) ∙ b rest)

pub differences-gather : (n : ℕ) (f : ℕ → List ℕ) → ((t : ℕ) → Differences 2 (f t)) → Differences (2 * n) (gather n f)
unfolding gather behind_differences
differences-gather zero f each rest = refl
differences-gather (suc n) f each rest =
    let e : 2 * suc n ≡ 2 * n + 2 = omega arith in
    rw e (differences-append (2 * n) 2 (gather n f) (f n) (differences-gather n f each) (each n) rest)
