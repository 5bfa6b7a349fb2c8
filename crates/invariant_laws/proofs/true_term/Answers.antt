-- `invariant_laws::true_term` meets its contract.

use Rattle.invariant_laws.specs.LawForms.{false_term, true_term}
use Rattle.invariant_laws.proofs.true_term.Goals as goal

pub returns : goal.returns
unfolding true_term false_term
returns c =
    rw c.term.ensures.0
