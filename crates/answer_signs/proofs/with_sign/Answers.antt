-- `answer_signs::with_sign` meets its contract: each sign has its bit.

use Prim.Native.Nat.{◌%◌}
use native.Mathlib.Omega.{arith}
use borrow.Author.Tests.{eq-eqb, ne_eqb, lt-ltb, le-ltb}
use Rattle.model.specs.Bits.{odd}
use Rattle.answer_signs.specs.Marks.{with_sign}
use Rattle.answer_signs.proofs.with_sign.Goals as goal

pub returns-then-entry-eq0 : goal.returns-then-entry-eq0
unfolding with_sign odd
returns-then-entry-eq0 c =
    rw (eq-eqb c.args.sign 0 (omega arith), ne_eqb (c.args.entry % 2) 1 (λ h. omega arith))

pub returns-then-sign-eq0 : goal.returns-then-sign-eq0
unfolding with_sign odd
returns-then-sign-eq0 c =
    rw (eq-eqb c.args.sign 0 (omega arith), eq-eqb (c.args.entry % 2) 1 (omega arith)) (omega arith)

pub returns-then-entry-lt2 : goal.returns-then-entry-lt2
unfolding with_sign
returns-then-entry-lt2 c =
    rw (ne_eqb c.args.sign 0 (λ h. omega arith), lt-ltb c.args.entry 2 (omega arith))

pub returns : goal.returns
unfolding with_sign
returns c =
    rw (ne_eqb c.args.sign 0 (λ h. omega arith), le-ltb c.args.entry 2 (omega arith)) (omega arith)
