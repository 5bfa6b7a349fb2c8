-- `aiger_codes::code_of` meets its contract: the wire that was found stands for the variable.

use Rattle.model.specs.Network.{renamed}
use Rattle.aiger_codes.proofs.code_of.Goals as goal

pub returns : goal.returns
unfolding renamed
returns c = rw c.wire_of-wire.ensures.0
