-- `literals::Term::number` meets its contract: a constant is not asked for its number.

use mathlib.Core.Path.{refl, sym}
use mathlib.Core.Bool.{true≢false}
use Rattle.literals.specs.Lit.{literal_of, is_number}
use Rattle.literals.proofs.Term.number.Goals as goal

pub returns-in-True : goal.returns-in-True
unfolding is_number
returns-in-True c = absurd (true≢false (sym (rw c.in-True.is at c.requires.1)))

pub returns-in-False : goal.returns-in-False
unfolding is_number
returns-in-False c = absurd (true≢false (sym (rw c.in-False.is at c.requires.1)))

pub returns-in-Number : goal.returns-in-Number
unfolding literal_of
returns-in-Number c = rw c.in-Number.is (record { literal = refl; number = rw c.in-Number.is at c.requires.0 })
