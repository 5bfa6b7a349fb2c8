-- `clause_variables::frame_base` meets its contract.

use Rattle.model.specs.Variables.{base}
use Rattle.literals.specs.Numbering.{base_of}
use Rattle.clause_variables.proofs.frame_base.Goals as goal

pub returns : goal.returns
unfolding base base_of
returns c = rw (c.numbering.ensures.0, c.numbering.ensures.1) at c.base.ensures
