-- `literals::Wire::in_frame` meets its contract.

use Rattle.model.specs.Variables.{wire_at}
use Rattle.literals.specs.Lit.{literal_of}
use Rattle.literals.proofs.Wire.in_frame.Goals as goal

pub returns : goal.returns
unfolding wire_at literal_of
returns c = c.variable.ensures
