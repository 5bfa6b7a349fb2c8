-- `netlist::first_latch_wire` meets its contract: the sizes are within their limits, so the sum fits.

use native.Mathlib.Omega.{arith}
use Rattle.netlist.specs.NetOf.{net_of}
use Rattle.netlist.proofs.first_latch_wire.Goals as goal

pub overflow_add-result : goal.overflow_add-result
unfolding net_of
overflow_add-result c = omega arith

pub returns : goal.returns
unfolding net_of
returns c = omega arith
