-- `literals::Term::is_number` meets its contract.

use Rattle.literals.specs.Lit.{is_number}
use Rattle.literals.proofs.Term.is_number.Goals as goal

pub returns-in-True : goal.returns-in-True
unfolding is_number
returns-in-True c = rw c.in-True.is

pub returns-in-False : goal.returns-in-False
unfolding is_number
returns-in-False c = rw c.in-False.is

pub returns-in-Number : goal.returns-in-Number
unfolding is_number
returns-in-Number c = rw c.in-Number.is
