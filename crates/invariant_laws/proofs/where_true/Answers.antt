-- `invariant_laws::where_true` meets its contract.

use Rattle.invariant_laws.specs.LawForms.{where_true}
use Rattle.invariant_laws.proofs.where_true.Goals as goal

pub returns : goal.returns
unfolding where_true
returns c =
    c.where_both.ensures
