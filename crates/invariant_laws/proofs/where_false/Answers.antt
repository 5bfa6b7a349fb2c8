-- `invariant_laws::where_false` meets its contract.

use Rattle.invariant_laws.specs.LawForms.{where_false}
use Rattle.invariant_laws.proofs.where_false.Goals as goal

pub returns : goal.returns
unfolding where_false
returns c =
    c.law_of.ensures
