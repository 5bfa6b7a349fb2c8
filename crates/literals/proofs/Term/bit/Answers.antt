-- `literals::Term::bit` meets its contract.

use Rattle.model.specs.Bits.{odd, bit}
use Rattle.literals.proofs.Term.bit.Goals as goal

pub returns : goal.returns
unfolding odd bit
returns c = c.constant.ensures
