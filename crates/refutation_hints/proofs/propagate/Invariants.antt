-- `refutation_hints::propagate` meets its contract. The hints that are left lead from what is false now where all hints led from what was false.

use Prim.Native.Nat.{◌/◌}
use mathlib.Core.Path.{◌≡◌}
use lib.ListN.{length, drop}
use Rattle.refutation_hints.specs.Propagation.{propagates}
use Rattle.refutation_hints.specs.Marks.{false_in, UpTo}
use Rattle.refutation_hints.proofs.propagate.Given as goal

abbrev pub invariant-loop-hint : goal.invariant-loop-hint
invariant-loop-hint l =
    (length l.marks ≡ length l.initial.marks) × UpTo l.turn l.marks
    × (propagates (length l.marks / 2) l.known (false_in l.marks l.turn) (drop l.hint-index l.hints) ≡ propagates (length l.initial.marks / 2) l.known (false_in l.initial.marks l.turn) l.hints)
