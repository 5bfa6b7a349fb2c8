-- `refutation_lemmas::check` meets its contract. The lemmas and hints that are left are found to be what all of them are.

use Prim.Native.Nat.{◌-◌, ◌/◌, ◌≤◌}
use mathlib.Core.Path.{◌≡◌}
use lib.ListN.{length, take, drop}
use Rattle.model.specs.Numbers.{clauses_in}
use Rattle.refutation_lemmas.specs.Refutation.{checked_from, checked}
use Rattle.refutation_hints.specs.Marks.{UpTo}
use Rattle.refutation_lemmas.proofs.check.Given as goal

abbrev pub invariant-loop-i : goal.invariant-loop-i
invariant-loop-i l =
    (l.i ≤ length l.hints) × (l.lemma ≤ l.i) × (length l.marks ≡ length l.initial.marks) × UpTo l.turn l.marks
    × (checked_from (length l.initial.marks / 2) (take l.at l.store) (clauses_in (drop l.at l.store)) (drop l.i l.hints) l.lemma
    ≡ checked (length l.initial.marks / 2) (take l.front l.store) (drop l.front l.store) l.hints)

abbrev pub decreases-loop-i : goal.decreases-loop-i
decreases-loop-i l = length l.hints - l.i
