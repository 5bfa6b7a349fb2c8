-- `netlist::is_kind_outside` meets its contract: two 32-bit numbers add up to a 64-bit number.

use Prim.Native.Nat.{◌+◌}
use mathlib.Core.Path.{sym}
use Rattle.netlist.proofs.Faults.{outside_above}
use Rattle.netlist.proofs.is_kind_outside.Goals as goal

pub returns : goal.returns
returns c = sym (outside_above 1 (c.args.unknown + c.args.second_port))
