-- `netlist::latch_fault` meets its contract: it is the definition's disjunction.

use Rattle.netlist.proofs.latch_fault.Goals as goal

pub is_above-requires : goal.is_above-requires
is_above-requires c = tt

pub is_outside-requires : goal.is_outside-requires
is_outside-requires c = tt

pub returns : goal.returns
returns c = rw (c.is_above.ensures, c.is_outside.ensures)
