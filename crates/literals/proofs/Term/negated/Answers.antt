-- `literals::Term::negated` meets its contract.

use mathlib.Core.Path.{refl}
use Rattle.model.specs.Clauses.{neg}
use Rattle.literals.specs.Lit.{literal_of}
use Rattle.literals.proofs.Term.negated.Goals as goal

pub negated-requires : goal.negated-requires
negated-requires c = rw c.in-Number.is at c.requires

pub returns-in-True : goal.returns-in-True
unfolding literal_of neg
returns-in-True c = rw c.in-True.is (record { literal = refl; number = tt })

pub returns-in-False : goal.returns-in-False
unfolding literal_of neg
returns-in-False c = rw c.in-False.is (record { literal = refl; number = tt })

pub returns-in-Number : goal.returns-in-Number
unfolding literal_of
returns-in-Number c = rw c.in-Number.is c.negated.ensures
