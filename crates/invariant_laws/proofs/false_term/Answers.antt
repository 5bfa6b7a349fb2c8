-- `invariant_laws::false_term` meets its contract.

use Rattle.invariant_laws.specs.LawForms.{false_term}
use Rattle.invariant_laws.proofs.false_term.Goals as goal

pub returns : goal.returns
unfolding false_term
returns c =
    c.term.ensures.0
