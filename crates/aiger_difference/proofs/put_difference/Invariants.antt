-- `aiger_difference::put_difference` meets its contract. The loop's invariant: what is written and the bytes of `rest` are the bytes of x.

use Prim.Native.Nat.{ℕ, ◌+◌, ◌≤◌}
use mathlib.Core.Path.{◌≡◌}
use mathlib.Core.List.{List, ◌++◌}
use lib.ListN.{length}
use Rattle.model.specs.Wrote.{Wrote}
use Rattle.aiger_difference.specs.Difference.{difference_bytes}
use Rattle.aiger_difference.proofs.put_difference.Given as goal

-- what is written, before what is still to be
abbrev pub Going : ℕ → List ℕ → List ℕ → ℕ → ℕ → Type 0
Going x old new rest i = (seen : List ℕ) × Wrote seen old new i × (seen ++ difference_bytes rest ≡ difference_bytes x)

abbrev pub invariant-loop-i : goal.invariant-loop-i
invariant-loop-i l =
    (l.i + length (difference_bytes l.rest) ≡ l.last + 1) × (l.last + 1 ≤ length l.initial.out) × Going l.x l.initial.out l.out l.rest l.i
