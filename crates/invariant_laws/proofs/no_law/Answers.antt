-- `invariant_laws::no_law` meets its contract.

use Rattle.invariant_laws.specs.LawForms.{no_law}
use Rattle.invariant_laws.proofs.no_law.Goals as goal

pub returns : goal.returns
unfolding no_law
returns c =
    c.law_of.ensures
