-- `aiger_tests::has_wrong_interface` meets its contract: inputs or outputs are wrong.

use Rattle.aiger_tests.proofs.has_wrong_interface.Goals as goal

pub returns : goal.returns
returns c = rw (c.lacks_inputs.ensures, c.has_other_outputs.ensures)
