-- `netlist::wire_count` meets its contract: the sizes are within their limits, so the sum fits.

use native.Mathlib.Omega.{arith}
use Rattle.netlist.specs.NetOf.{net_of}
use Rattle.netlist.proofs.wire_count.Goals as goal

pub overflow_add-result : goal.overflow_add-result
unfolding net_of
overflow_add-result c = omega arith

pub overflow_add-result-2 : goal.overflow_add-result-2
unfolding net_of
overflow_add-result-2 c = omega arith

pub overflow_add-result-3 : goal.overflow_add-result-3
unfolding net_of
overflow_add-result-3 c = omega arith

pub returns : goal.returns
unfolding net_of
returns c = omega arith
