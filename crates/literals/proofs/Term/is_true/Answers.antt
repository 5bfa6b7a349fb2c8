-- `literals::Term::is_true` meets its contract.

use mathlib.Core.Path.{sym}
use Rattle.model.specs.Numbers.{is_true}
use Rattle.literals.proofs.Literal.{is_true-literal_at}
use Rattle.literals.specs.Lit.{literal_of}
use Rattle.literals.proofs.Term.is_true.Goals as goal

pub returns-in-True : goal.returns-in-True
unfolding literal_of is_true
returns-in-True c = rw c.in-True.is

pub returns-in-False : goal.returns-in-False
unfolding literal_of is_true
returns-in-False c = rw c.in-False.is

pub returns-in-Number : goal.returns-in-Number
unfolding literal_of is_true
returns-in-Number c = rw c.in-Number.is (sym (is_true-literal_at _))
