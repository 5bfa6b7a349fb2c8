-- `aiger_definitions::first_repeat` meets its contract.

use Rattle.aiger_definitions.proofs.Definitions.{again-first}
use Rattle.aiger_definitions.proofs.first_repeat.Goals as goal

pub returns : goal.returns
returns c = again-first c.args.text.now c.args.sound c.first_fault.result c.first_fault.ensures
