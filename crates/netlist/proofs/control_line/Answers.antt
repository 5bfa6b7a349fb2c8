-- `netlist::control_line` meets its contract: the sizes are within their limits, so the sum fits.

use Prim.Native.Nat.{◌+◌}
use native.Mathlib.Omega.{arith}
use Rattle.model.proofs.Ports.{second-most}
use Rattle.netlist.specs.NetOf.{net_of}
use Rattle.netlist.proofs.control_line.Goals as goal

pub overflow_add-result : goal.overflow_add-result
unfolding net_of
overflow_add-result c = omega arith

pub overflow_add-result-2 : goal.overflow_add-result-2
unfolding net_of
overflow_add-result-2 c = omega arith

pub overflow_add-result-3 : goal.overflow_add-result-3
unfolding net_of
overflow_add-result-3 c = omega arith

pub overflow_add-result-4 : goal.overflow_add-result-4
unfolding net_of
overflow_add-result-4 c = omega arith

pub overflow_add-result-5 : goal.overflow_add-result-5
unfolding net_of
overflow_add-result-5 c = omega arith

pub overflow_mul-result : goal.overflow_mul-result
unfolding net_of
overflow_mul-result c = omega (arith, second-most c.requires (c.args.net.m + 1))

pub overflow_add-result-6 : goal.overflow_add-result-6
unfolding net_of
overflow_add-result-6 c = omega (arith, second-most c.requires (c.args.net.m + 1))

pub returns : goal.returns
unfolding net_of
returns c = omega arith
