-- `circuit_values::code_bits` meets its contract. The loop's invariant: the first t codes make the number.

use mathlib.Core.Path.{◌≡◌}
use Rattle.model.specs.Bits.{from_bits}
use Rattle.model.specs.Circuit.{code_value}
use Rattle.netlist.specs.NetOf.{code_of}
use Rattle.netlist.specs.WireTable.{entry}
use Rattle.circuit_values.proofs.code_bits.Given as goal

abbrev pub invariant-loop-t : goal.invariant-loop-t
invariant-loop-t l = l.number ≡ from_bits l.t (λ x. code_value (entry l.values) (code_of l.bits x))
