-- `refutation_hints::mark_lemma` meets its contract. What is marked and what is left of the lemma are the lemma.

use Prim.Native.Nat.{◌/◌}
use mathlib.Core.Path.{◌≡◌}
use mathlib.Core.Bool.{◌||◌}
use lib.IntN.{ℤ}
use lib.ListN.{length, drop}
use Rattle.answer_signs.specs.Signs.{among}
use Rattle.refutation_hints.specs.Propagation.{every, within}
use Rattle.refutation_hints.specs.Marks.{false_in, UpTo}
use Rattle.refutation_hints.proofs.mark_lemma.Given as goal

abbrev pub invariant-loop-number : goal.invariant-loop-number
invariant-loop-number l =
    (length l.marks ≡ length l.initial.marks) × UpTo l.turn l.marks
    × (every (within (length l.initial.marks / 2)) (drop l.number-index l.lemma) ≡ every (within (length l.initial.marks / 2)) l.lemma)
    × ((z : ℤ) → (false_in l.marks l.turn z || among z (drop l.number-index l.lemma)) ≡ among z l.lemma)
