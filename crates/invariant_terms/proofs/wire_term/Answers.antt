-- `invariant_terms::wire_term` meets its contract.

use Rattle.invariant_terms.proofs.wire_term.Goals as goal

pub returns : goal.returns
returns c = c.term.ensures.0
