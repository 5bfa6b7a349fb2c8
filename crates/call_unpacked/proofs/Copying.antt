-- Numbers copied from the front of one slice to another, one more. No contract cites this file.
use Prim.Native.Nat.{ℕ, suc, ◌+◌, ◌<◌}
use mathlib.Core.Path.{◌≡◌}
use mathlib.Core.List.{List, ◌++◌}
use native.Mathlib.Nat.{zero-add}
use native.Mathlib.Omega.{arith}
use lib.IntN.{ℤ, pos}
use lib.ListN.{length, get_or, take, drop, set}
use lib.Seq.{paste-suc}

pub copy-next : (numbers old : List ℤ) (i : ℕ) → i < length numbers → i < length old
    → set (take i numbers ++ drop i old) i (get_or numbers i (pos 0)) ≡ take (suc i) numbers ++ drop (suc i) old
copy-next numbers old i h l =
    let room : 0 + i < length old = omega arith in
    simp zero-add at (paste-suc old 0 numbers i (pos 0) room h)
