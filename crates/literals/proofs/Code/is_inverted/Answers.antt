-- `literals::Code::is_inverted` meets its contract.

use mathlib.Core.Path.{refl}
use Rattle.model.specs.Bits.{odd}
use Rattle.literals.proofs.Code.is_inverted.Goals as goal

pub returns : goal.returns
unfolding odd
returns c = refl
