-- `sheet_steps::store_memory` meets its contract: it sets what the line has.

use mathlib.Core.Path.{refl}
use Rattle.netlist.specs.NetOf.{net_of}
use Rattle.sheet_steps.specs.Steps.{stored}
use Rattle.sheet_steps.proofs.Lists.{full-kept}
use Rattle.sheet_steps.proofs.store_memory.Goals as goal

pub returns : goal.returns
unfolding net_of stored
returns c latches gates full =
    record {
      full = full-kept full refl refl refl;
      net-is = rw c.second_port_of.ensures;
    }
