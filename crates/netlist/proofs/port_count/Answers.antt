-- `netlist::port_count` meets its contract: the number of a second port is within its limit.

use native.Mathlib.Omega.{arith}
use Rattle.netlist.specs.NetOf.{net_of}
use Rattle.netlist.proofs.port_count.Goals as goal

pub overflow_add-result : goal.overflow_add-result
unfolding net_of
overflow_add-result c = omega arith

pub returns : goal.returns
unfolding net_of
returns c = omega arith
