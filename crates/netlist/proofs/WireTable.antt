-- Laws of specs/WireTable.antt: one entry set. No contract cites this file.
use Prim.Native.Nat.{ℕ, ◌≤◌, ◌<◌}
use mathlib.Core.Path.{◌≡◌, ◌∙◌}
use mathlib.Core.Bool.{Bool, false}
use mathlib.Core.List.{List}
use mathlib.Core.Logic.{by_cases}
use native.Mathlib.Decide.{ℕ_discrete}
use native.Mathlib.Omega.{arith}
use lib.ListN.{length, get_or, set, length-set}
use lib.Seq.{get_or-set_same, get_or-set_other}
use Rattle.netlist.specs.WireTable.{entry, HasBelow}

-- the entry of wire v set to what it is to be, where the others are
pub below_set : {b : ℕ} {f : ℕ → Bool} (table : List Bool) → length table ≡ 601 → (v : ℕ) → v ≤ 600 → (x : Bool) → x ≡ f v
    → ((w : ℕ) → w < b → (w ≡ v → ⊥) → entry table w ≡ f w) → HasBelow b f (set table v x)
below_set {b} {f} table size v h x e others = record { size = length-set table v x ∙ size; has = at }
  where
    at : (w : ℕ) → w < b → get_or (set table v x) w false ≡ f w
    at w l =
        by_cases (ℕ_discrete w v)
        (λ here. rw here (get_or-set_same table v x false (omega (arith, size)) ∙ e))
        (λ away. get_or-set_other table v w x false away ∙ others w l away)
