-- `circuit_values::put_bits` meets its contract. The loop's invariant: the table has the first t bits.

use Rattle.model.specs.Bits.{bit}
use Rattle.circuit_values.proofs.WireTable.{Grown}
use Rattle.circuit_values.proofs.put_bits.Given as goal

abbrev pub invariant-loop-t : goal.invariant-loop-t
invariant-loop-t l = Grown l.initial.values l.first (bit l.word) l.values l.t
