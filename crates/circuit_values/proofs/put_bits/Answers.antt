-- `circuit_values::put_bits` meets its contract. The loop's invariant: the table has the first t bits.

use mathlib.Core.Path.{◌≡◌, refl}
use native.Mathlib.Omega.{arith}
use Rattle.model.specs.Bits.{odd, bit}
use Rattle.circuit_values.proofs.WireTable.{grown-none, grown-next}
use Rattle.circuit_values.proofs.put_bits.Goals as goal

pub loop-t-init : goal.loop-t-init
loop-t-init c = grown-none _ _ _

pub loop-t-preserved : goal.loop-t-preserved
unfolding bit odd
loop-t-preserved c = grown-next c.loop-t.invariant (omega arith) _ refl

pub returns : goal.returns
returns c =
    λ v q each. let all : c.loop-t.t ≡ c.args.count = omega arith in rw all at (c.loop-t.invariant v q (λ y h. each y (omega arith)))
