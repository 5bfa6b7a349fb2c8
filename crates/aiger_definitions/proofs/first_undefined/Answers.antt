-- `aiger_definitions::first_undefined` meets its contract.

use Rattle.aiger_definitions.proofs.Definitions.{undefined-first}
use Rattle.aiger_definitions.proofs.first_undefined.Goals as goal

pub returns : goal.returns
returns c =
    undefined-first c.args.text.now c.first_fault.result
    (rw (c.lines_due.ensures, c.requires.0.counts-are) at c.first_fault.ensures)
