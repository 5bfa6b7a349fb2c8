-- `group_counts::count_ends` meets its contract. The loop has counted the end marks passed.

use Prim.Native.Nat.{◌≤◌}
use mathlib.Core.Path.{◌≡◌}
use lib.Dec.{eqb}
use lib.IntN.{ℤ}
use lib.ListN.{take}
use Rattle.std.specs.Prelude.{nat_abs, count_by}
use Rattle.group_counts.proofs.count_ends.Given as goal

abbrev pub invariant-loop-z : goal.invariant-loop-z
invariant-loop-z l =
    (l.ends ≡ count_by (λ (z : ℤ). eqb (nat_abs z) 0) (take l.z-index l.numbers)) × (l.ends ≤ l.z-index)
