-- `call_position::number_of` meets its contract: each arm knows its term.

use mathlib.Core.Path.{sym}
use native.Mathlib.Omega.{arith}
use mir.Syntax.{w32}
use mir.ValLaws.{to_z-of_z}
use Rattle.literals.specs.Lit.{literal_of}
use Rattle.literals.proofs.Literal.{literal_number-at, fits}
use Rattle.call_position.proofs.number_of.Goals as goal

pub returns-in-True : goal.returns-in-True
unfolding literal_of
returns-in-True c = record { number = rw c.in-True.is; bounded = omega arith }

pub returns-in-False : goal.returns-in-False
unfolding literal_of
returns-in-False c = record { number = rw c.in-False.is; bounded = omega arith }

pub returns-in-Number : goal.returns-in-Number
unfolding literal_of
returns-in-Number c =
    let z = c.in-Number.l.0 in
    let is = rw c.in-Number.is at c.requires in
    rw (to_z-of_z w32 z (fits z is.bounded), c.in-Number.is) (record { number = sym (literal_number-at z); bounded = is.bounded })
