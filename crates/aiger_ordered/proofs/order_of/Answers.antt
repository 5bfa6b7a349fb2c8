-- `aiger_ordered::order_of` meets its contract.

use Rattle.netlist.specs.NetOf.{net_of}
use Rattle.aiger_ordered.proofs.order_of.Goals as goal

pub returns : goal.returns
unfolding net_of
returns c = rw c.read_count.ensures
