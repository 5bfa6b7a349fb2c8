-- `invariant_laws::where_both` meets its contract.

use mathlib.Core.Path.{◌∙◌}
use Rattle.invariant_laws.specs.LawForms.{where_both}
use Rattle.invariant_laws.proofs.where_both.Goals as goal

pub returns : goal.returns
unfolding where_both
returns c =
    c.law_of.ensures ∙ rw (c.opposite-2.ensures, c.opposite.ensures)
