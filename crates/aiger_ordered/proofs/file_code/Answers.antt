-- `aiger_ordered::file_code` meets its contract.

use native.Mathlib.Omega.{arith}
use Rattle.model.specs.Network.{renamed}
use Rattle.aiger_ordered.proofs.file_code.Goals as goal

pub returns : goal.returns
unfolding renamed
returns c = omega arith
