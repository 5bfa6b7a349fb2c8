-- `literals::Numbering::base` meets its contract: within the limits no product wraps.

use native.Mathlib.Nat.{zero-mul, mul-zero}
use native.Mathlib.Omega.{arith}
use borrow.Author.Rules.{rules}
use Rattle.literals.specs.Numbering.{base_of}
use Rattle.literals.proofs.Products.{products}
use Rattle.literals.proofs.Numbering.base.Goals as goal

pub returns-then-i-eq0 : goal.returns-then-i-eq0
unfolding base_of
returns-then-i-eq0 c = simp (c.if-i-eq0.true, zero-mul, mul-zero)

pub overflow_mul-result : goal.overflow_mul-result
overflow_mul-result c = omega (arith, products _ _ c.requires)

pub overflow_add-result : goal.overflow_add-result
overflow_add-result c = omega (arith, products _ _ c.requires)

pub overflow_mul-result-2 : goal.overflow_mul-result-2
overflow_mul-result-2 c = omega (arith, products _ _ c.requires)

pub overflow_mul-result-3 : goal.overflow_mul-result-3
overflow_mul-result-3 c = omega (arith, products _ _ c.requires)

pub overflow_add-result-2 : goal.overflow_add-result-2
overflow_add-result-2 c = omega (arith, products _ _ c.requires)

pub returns : goal.returns
unfolding base_of
returns c = search rules
