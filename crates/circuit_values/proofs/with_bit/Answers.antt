-- `circuit_values::with_bit` meets its contract.

use native.Mathlib.Omega.{arith}
use Rattle.circuit_values.proofs.Bits.{bit_shifted, bit-fits}
use Rattle.circuit_values.proofs.with_bit.Goals as goal

pub overflow_add-result : goal.overflow_add-result
overflow_add-result c =
    rw (bit_shifted _ c.requires.0) (record { fits = omega (arith, bit-fits c.args.t c.requires.0) })

pub returns-then-value : goal.returns-then-value
returns-then-value c =
    rw (bit_shifted _ c.requires.0, c.if-value.true)

pub returns : goal.returns
returns c =
    rw c.if-value.false (omega arith)
