-- `invariant_terms::number_of` meets its contract.

use Prim.Native.Nat.{ℕ, suc, ◌+◌, ◌/◌, ◌%◌}
use mathlib.Core.Path.{◌≡◌, ◌∙◌, ap}
use lib.IntN.{pos, neg_ℤ}
use borrow.Author.Tests.{eq-eqb, ne_eqb}
use mir.Syntax.{w32}
use mir.ValLaws.{to_z_pos}
use Rattle.model.specs.Bits.{odd}
use Rattle.literals.proofs.Literal.{minus-fits, minus_is}
use Rattle.invariant_terms.specs.Terms.{number_of}
use native.Mathlib.Omega.{arith}
use Rattle.invariant_terms.proofs.number_of.Goals as goal

pub overflow_sub-result : goal.overflow_sub-result
overflow_sub-result c = (minus-fits (pos (c.args.x / 2 + 1)) (omega arith))

pub returns-then-x-eq1 : goal.returns-then-x-eq1
unfolding number_of odd
returns-then-x-eq1 c =
    let v : ℕ = c.args.x / 2 in
    let e : v + 1 ≡ suc v = omega arith in
    rw (eq-eqb (c.args.x % 2) 1 c.if-x-eq1.true) (minus_is (pos (v + 1)) (omega arith) ∙ ap (λ (n : ℕ). neg_ℤ (pos n)) e)

pub returns : goal.returns
unfolding number_of odd
returns c =
    let v : ℕ = c.args.x / 2 in
    let e : v + 1 ≡ suc v = omega arith in
    rw (ne_eqb (c.args.x % 2) 1 c.if-x-eq1.false) (to_z_pos w32 (v + 1) (omega arith) ∙ ap pos e)
