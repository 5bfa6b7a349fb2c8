-- `circuit_step::write_memory` meets its contract.

use mathlib.Core.Path.{sym, ◌∙◌}
use native.Mathlib.Omega.{arith}
use Rattle.model.specs.Netlist.{port}
use Rattle.model.proofs.Memory.{address_below}
use Rattle.netlist.specs.NetOf.{net_of, alone}
use Rattle.netlist.specs.WireTable.{entry}
use Rattle.circuit_step.specs.Held.{memory_after}
use Rattle.circuit_step.proofs.write_memory.Goals as goal

pub code_value-requires : goal.code_value-requires
unfolding net_of
code_value-requires c =
    omega (arith, c.requires.0.sizes, c.requires.0.codes.WE-fits)

pub bounds-memory-address : goal.bounds-memory-address
unfolding net_of
bounds-memory-address c =
    omega (arith, c.requires.1, c.address_of-address.ensures, address_below (alone c.args.net) (port (alone c.args.net) 1) (entry c.args.values.now))

pub returns-then-code_value : goal.returns-then-code_value
unfolding net_of memory_after
returns-then-code_value c =
    rw (sym c.code_value.ensures ∙ c.if-code_value.true, c.address_of-address.ensures, c.word_written.ensures)

pub returns-else-code_value : goal.returns-else-code_value
unfolding net_of memory_after
returns-else-code_value c =
    rw (sym c.code_value.ensures ∙ c.if-code_value.false)
