-- `netlist::sizes_fault` meets its contract: it is the definition's disjunction.

use Rattle.netlist.specs.NetOf.{net_of}
use Rattle.netlist.specs.Faults.{size_fault}
use Rattle.netlist.proofs.sizes_fault.Goals as goal

pub is_outside-requires : goal.is_outside-requires
is_outside-requires c = tt

pub is_outside-requires-2 : goal.is_outside-requires-2
is_outside-requires-2 c = tt

pub is_outside-requires-3 : goal.is_outside-requires-3
is_outside-requires-3 c = tt

pub returns : goal.returns
unfolding net_of size_fault
returns c = rw (c.is_outside.ensures, c.is_outside-2.ensures, c.is_outside-3.ensures)
