-- `aiger_lines::no_numbers` meets its contract.

use mathlib.Core.Path.{refl}
use Rattle.aiger_lines.specs.Steps.{first_five}
use Rattle.aiger_lines.proofs.no_numbers.Goals as goal

pub returns : goal.returns
unfolding first_five
returns c = refl
