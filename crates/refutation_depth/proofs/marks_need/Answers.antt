-- `refutation_depth::marks_need` meets its contract.

use native.Mathlib.Omega.{arith}
use Rattle.refutation_depth.specs.Certificate.{marks_need}
use Rattle.refutation_depth.proofs.marks_need.Goals as goal

pub returns : goal.returns
unfolding marks_need
returns c = omega (arith, c.frame_base.ensures)
