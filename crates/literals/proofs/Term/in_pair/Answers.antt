-- `literals::Term::in_pair` meets its contract.

use Rattle.literals.specs.Lit.{literal_of}
use Rattle.literals.proofs.Term.in_pair.Goals as goal

pub returns : goal.returns
unfolding literal_of
returns c = c.variable.ensures
