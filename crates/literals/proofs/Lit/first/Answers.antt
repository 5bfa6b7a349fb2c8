-- `literals::Lit::first` meets its contract.

use mathlib.Core.Path.{refl}
use native.Mathlib.Omega.{arith}
use Rattle.literals.specs.Lit.{literal_at}
use Rattle.literals.proofs.Lit.first.Goals as goal

pub returns : goal.returns
unfolding literal_at
returns c = record { literal = refl; number = record { nonzero = omega arith; bounded = omega arith } }
