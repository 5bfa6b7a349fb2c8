-- `call_position::first` meets its contract: B(0) is 1.

use Rattle.model.proofs.Variables.{base-zero}
use Rattle.call_position.proofs.first.Goals as goal

pub returns : goal.returns
returns c = λ d. rw (base-zero d)
