-- `netlist::gate_fault` meets its contract: an operand is outside its limit where it is not below it.

use Prim.Native.Nat.{◌*◌}
use Rattle.netlist.proofs.Faults.{leb-not-ltb}
use Rattle.netlist.proofs.gate_fault.Goals as goal

pub is_below-requires : goal.is_below-requires
is_below-requires c = tt

pub is_below-requires-2 : goal.is_below-requires-2
is_below-requires-2 c = tt

pub returns : goal.returns
returns c =
    rw (c.is_below.ensures, c.is_below-2.ensures, leb-not-ltb (2 * c.args.own.0) c.args.left.0, leb-not-ltb (2 * c.args.own.0) c.args.right.0)
