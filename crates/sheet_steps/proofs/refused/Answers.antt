-- `sheet_steps::refused` meets its contract: it is the definition.

use Rattle.sheet_steps.proofs.refused.Goals as goal

pub returns : goal.returns
returns c = rw c.empty_net.ensures
