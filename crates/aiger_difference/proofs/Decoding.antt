-- What bytes are read as: numbers in bytes of seven bits each (specs/Difference.antt), one behind the other. No contract cites this file.
use Prim.Native.Nat.{ℕ, zero, suc, ◌+◌, ◌-◌, ◌*◌}
use mathlib.Core.Bool.{cond}
use mathlib.Core.List.{List, [], ◌∷◌}
use lib.Dec.{ltb}

-- the number at the start of bytes: a byte from 128 on says that another follows
unfoldable pub difference_in : List ℕ → ℕ
difference_in [] = 0
difference_in (x ∷ s) = cond (ltb x 128) x (x - 128 + 128 * difference_in s)

-- what stands behind it
unfoldable pub behind_difference : List ℕ → List ℕ
behind_difference [] = []
behind_difference (x ∷ s) = cond (ltb x 128) s (behind_difference s)

-- what stands behind n of them; and the number there
unfoldable pub behind_differences : ℕ → List ℕ → List ℕ
behind_differences zero s = s
behind_differences (suc n) s = behind_difference (behind_differences n s)

abbrev pub difference_at : List ℕ → ℕ → ℕ
difference_at s n = difference_in (behind_differences n s)
