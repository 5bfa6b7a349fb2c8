-- `invariant_terms::code_term` meets its contract.

use Rattle.invariant_terms.specs.Terms.{code_term}
use Rattle.invariant_terms.proofs.code_term.Goals as goal

pub returns : goal.returns
unfolding code_term
returns c = rw c.term.ensures.0
