-- `invariant_writer::fits` meets its contract.

use mathlib.Core.Path.{refl}
use Rattle.invariant_laws.specs.LawForms.{law_fits}
use Rattle.invariant_writer.proofs.fits.Goals as goal

pub returns : goal.returns
unfolding law_fits
returns c =
    refl
