-- `literals::Term::constant` meets its contract.

use mathlib.Core.Path.{sym, ap}
use Rattle.model.specs.Clauses.{known}
use Rattle.literals.specs.Lit.{literal_of}
use Rattle.literals.proofs.Term.constant.Goals as goal

pub returns-then-value : goal.returns-then-value
unfolding literal_of
returns-then-value c = record { literal = ap known (sym c.if-value.true); number = tt }

pub returns : goal.returns
unfolding literal_of
returns c = record { literal = ap known (sym c.if-value.false); number = tt }
