-- `invariant_laws::same` meets its contract.

use mathlib.Core.Path.{◌∙◌}
use Rattle.invariant_laws.specs.LawForms.{same}
use Rattle.invariant_laws.proofs.same.Goals as goal

pub returns : goal.returns
unfolding same
returns c =
    c.law_of.ensures ∙ rw c.false_term-no.ensures
