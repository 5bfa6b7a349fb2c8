-- `sheet_one_port::names_second` meets its contract.

use mathlib.Core.Path.{◌≡◌}
use native.Mathlib.Omega.{arith}
use Rattle.model.specs.Netlist.{read_wire, gate_wire}
use Rattle.model.specs.OnePort.{names_second}
use Rattle.netlist.specs.NetOf.{net_of, alone}
use Rattle.sheet_one_port.proofs.SecondPort.{between-wires}
use Rattle.sheet_one_port.proofs.names_second.Goals as goal

pub offset-second-requires : goal.offset-second-requires
unfolding net_of
offset-second-requires c = omega (arith, c.first_read_wire.ensures, c.requires)

pub returns : goal.returns
unfolding net_of names_second
returns c =
    let second : c.offset-second.result.0 ≡ read_wire (alone c.args.net) c.args.net.n = omega (arith, c.offset-second.ensures, c.first_read_wire.ensures) in
    rw (c.is_below-2.ensures, c.is_below.ensures, second, c.first_gate_wire.ensures) (between-wires c.args.code.0 (read_wire (alone c.args.net) c.args.net.n) (gate_wire (alone c.args.net) 0))
