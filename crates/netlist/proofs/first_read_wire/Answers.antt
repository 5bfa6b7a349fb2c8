-- `netlist::first_read_wire` meets its contract: the sizes are within their limits, so the sum fits.

use native.Mathlib.Omega.{arith}
use Rattle.netlist.specs.NetOf.{net_of}
use Rattle.netlist.proofs.first_read_wire.Goals as goal

pub first_latch_wire-requires : goal.first_latch_wire-requires
first_latch_wire-requires c = c.requires

pub offset-requires : goal.offset-requires
unfolding net_of
offset-requires c = omega arith

pub returns : goal.returns
unfolding net_of
returns c = omega arith
