-- `literals::Numbering::pair_base` meets its contract: within the limits no sum wraps.

use native.Mathlib.Omega.{arith}
use Rattle.literals.specs.Numbering.{pair_base_of}
use Rattle.literals.proofs.Products.{base_of-most, pairs-most}
use Rattle.literals.proofs.Numbering.pair_base.Goals as goal

pub overflow_add-result : goal.overflow_add-result
overflow_add-result c = omega (arith, base_of-most _ _ c.requires.0)

pub overflow_mul-result : goal.overflow_mul-result
overflow_mul-result c =
    let p = c.requires in
    omega (arith, pairs-most _ _ _ p.0 p.1)

pub overflow_add-result-2 : goal.overflow_add-result-2
overflow_add-result-2 c =
    let p = c.requires in
    omega (arith, pairs-most _ _ _ p.0 p.1, base_of-most _ _ p.0)

pub overflow_add-result-3 : goal.overflow_add-result-3
overflow_add-result-3 c =
    let p = c.requires in
    omega (arith, pairs-most _ _ _ p.0 p.1, base_of-most _ _ p.0)

pub returns : goal.returns
unfolding pair_base_of
returns c = omega (arith, c.base.ensures)
