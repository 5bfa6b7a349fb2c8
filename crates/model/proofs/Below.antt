-- Facts about every number below a bound, one more at a time. No contract cites this file.
use Prim.Native.Nat.{ℕ, suc, ◌<◌}
use mathlib.Core.Path.{◌≡◌, subst, sym}
use mathlib.Core.Logic.{◌⊎◌, inl, inr, ⊎_elim, ◌↔◌}
use native.Mathlib.Nat.{le-suc_iff, le_step, lt-suc_self, suc_inj}

-- below n + 1: below n, or n itself
pub below_suc : (t n : ℕ) → t < suc n → (t < n) ⊎ (t ≡ n)
below_suc t n b = ⊎_elim inl (λ e. inr (suc_inj e)) (le-suc_iff.0 b)

-- what holds of every number below n and of n holds of every number below n + 1
pub all-below-suc : (P : ℕ → Type 0) (n : ℕ) → ((t : ℕ) → t < n → P t) → P n → (t : ℕ) → t < suc n → P t
all-below-suc P n h p t b = ⊎_elim (h t) (λ e. subst P (sym e) p) (below_suc t n b)

pub all-below-suc-iff : (P : ℕ → Type 0) (n : ℕ) → (((t : ℕ) → t < n → P t) × P n) ↔ ((t : ℕ) → t < suc n → P t)
all-below-suc-iff P n = (λ h. all-below-suc P n h.0 h.1, λ h. (λ t b. h t (le_step b), h n (lt-suc_self n)))
