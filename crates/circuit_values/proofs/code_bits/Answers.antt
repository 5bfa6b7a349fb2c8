-- `circuit_values::code_bits` meets its contract. The loop's invariant: the first t codes make the number.

use native.Mathlib.Omega.{arith}
use Rattle.model.proofs.Bits.{from_bits-below}
use Rattle.netlist.specs.NetOf.{code_of}
use Rattle.circuit_values.proofs.Bits.{from_bits-none, from_bits-next}
use Rattle.circuit_values.proofs.code_bits.Goals as goal

pub loop-t-init : goal.loop-t-init
loop-t-init c = from_bits-none _

pub code_value-requires : goal.code_value-requires
unfolding code_of
code_value-requires c = c.requires.2 c.loop-t.t (omega arith)

pub with_bit-number-requires : goal.with_bit-number-requires
with_bit-number-requires c = (omega arith, rw c.loop-t.invariant (from_bits-below _ _))

pub loop-t-preserved : goal.loop-t-preserved
unfolding code_of
loop-t-preserved c = rw (c.with_bit-number.ensures, c.code_value.ensures, c.loop-t.invariant) (from_bits-next c.loop-t.t _)
