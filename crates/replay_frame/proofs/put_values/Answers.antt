-- `replay_frame::put_values` meets its contract. The loop's invariant: the table has the first x values.

use mathlib.Core.Path.{◌≡◌}
use native.Mathlib.Omega.{arith}
use lib.ListN.{length-set}
use Rattle.circuit_step.proofs.Held.{set_next}
use Rattle.replay_frame.proofs.put_values.Goals as goal

pub loop-x-init : goal.loop-x-init
loop-x-init c = (c.requires.0, λ y h. absurd (omega arith))

pub loop-x-preserved : goal.loop-x-preserved
loop-x-preserved c = (
  simp length-set c.loop-x.invariant.0,
  set_next c.loop-x.table (omega arith) c.loop-x.invariant.0 c.loop-x.invariant.1 c.is_true.ensures.truth,
)

pub returns : goal.returns
returns c =
    let all : c.loop-x.x ≡ c.args.count = omega arith in
    (c.loop-x.invariant.0, λ x h. c.loop-x.invariant.1 x (omega arith))
