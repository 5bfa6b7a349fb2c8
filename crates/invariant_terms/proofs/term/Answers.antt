-- `invariant_terms::term` meets its contract.

use native.Mathlib.Omega.{arith}
use Rattle.invariant_terms.specs.Terms.{variable, term}
use Rattle.invariant_terms.proofs.term.Goals as goal

pub returns : goal.returns
unfolding term variable
returns c = omega arith
