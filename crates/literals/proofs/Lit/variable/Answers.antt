-- `literals::Lit::variable` meets its contract: within the bound the machine's sum is the variable's number.

use mathlib.Core.Path.{refl}
use native.Mathlib.Omega.{arith}
use Rattle.literals.specs.Lit.{literal_at}
use Rattle.literals.proofs.Literal.{variable-is}
use Rattle.literals.proofs.Lit.variable.Goals as goal

pub returns : goal.returns
unfolding literal_at
returns c =
    rw (variable-is c.args.b c.args.w c.requires.0)
    (record { literal = refl; number = record { nonzero = omega arith; bounded = omega arith } })
