-- `replay_frame::any_unclear` meets its contract. The loop's invariant: what was found is of the first x variables.

use Prim.Native.Nat.{◌+◌}
use mathlib.Core.Path.{◌≡◌}
use Rattle.model.specs.Search.{any_below}
use Rattle.answer_signs.specs.Signs.{unclear_in}
use Rattle.replay_frame.proofs.any_unclear.Given as goal

abbrev pub invariant-loop-x : goal.invariant-loop-x
invariant-loop-x l = l.any ≡ any_below l.x (λ y. unclear_in l.signs (l.first + y))
