-- `call_position::no_literal` meets its contract.

use Rattle.call_position.specs.Literals.{with_literal}
use Rattle.call_position.proofs.no_literal.Goals as goal

pub returns : goal.returns
unfolding with_literal
returns c = rw c.number.ensures
