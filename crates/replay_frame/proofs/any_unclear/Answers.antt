-- `replay_frame::any_unclear` meets its contract. The loop's invariant: what was found is of the first x variables.

use mathlib.Core.Bool.{false}
use Rattle.model.proofs.Search.{any_none, any_next}
use Rattle.replay_frame.proofs.any_unclear.Goals as goal

pub loop-x-init : goal.loop-x-init
loop-x-init c = any_none false _

pub loop-x-preserved : goal.loop-x-preserved
loop-x-preserved c = rw (c.loop-x.invariant, c.is_unclear-any.ensures) (any_next false _ c.loop-x.x)
