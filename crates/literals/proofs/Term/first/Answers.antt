-- `literals::Term::first` meets its contract.

use Rattle.literals.specs.Lit.{literal_of}
use Rattle.literals.proofs.Term.first.Goals as goal

pub returns : goal.returns
unfolding literal_of
returns c = c.first.ensures
