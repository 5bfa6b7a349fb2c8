-- `circuit_values::is_reading` meets its contract.

use native.Mathlib.Omega.{arith}
use Rattle.netlist.specs.NetOf.{net_of}
use Rattle.circuit_values.proofs.is_reading.Goals as goal

pub code_value-requires : goal.code_value-requires
unfolding net_of
code_value-requires c =
    omega (arith, c.of_port.ensures, c.requires.0.sizes, c.requires.0.codes.RE-fits c.args.port_number c.requires.1)

pub returns : goal.returns
unfolding net_of
returns c = rw (c.code_value.ensures, c.of_port.ensures)
