-- `invariant_terms::bit_term` meets its contract.

use native.Mathlib.Omega.{arith}
use mathlib.Core.Path.{◌∙◌}
use Rattle.invariant_terms.specs.Terms.{state_term}
use Rattle.invariant_terms.proofs.bit_term.Goals as goal

pub returns-then-behind : goal.returns-then-behind
returns-then-behind c =
    (c.term.ensures.0 ∙ rw c.if-behind.true, c.term.ensures.1)

pub returns : goal.returns
unfolding state_term
returns c =
    (rw c.if-behind.false, omega (arith, c.requires.1))
