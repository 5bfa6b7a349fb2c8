-- `netlist::read_count` meets its contract: a second port has no more read bits than the first.

use native.Mathlib.Omega.{arith}
use Rattle.model.proofs.Ports.{second-most}
use Rattle.netlist.specs.NetOf.{net_of}
use Rattle.netlist.proofs.read_count.Goals as goal

pub overflow_add-result : goal.overflow_add-result
unfolding net_of
overflow_add-result c = omega arith

pub overflow_mul-result : goal.overflow_mul-result
unfolding net_of
overflow_mul-result c = omega (arith, second-most c.requires c.args.net.n)

pub returns : goal.returns
unfolding net_of
returns c = omega arith
