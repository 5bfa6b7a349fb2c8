-- `invariant_laws::law_of` meets its contract.

use mathlib.Core.Path.{refl}
use Rattle.invariant_laws.specs.LawForms.{law_of}
use Rattle.invariant_laws.proofs.law_of.Goals as goal

pub returns : goal.returns
unfolding law_of
returns c =
    refl
