-- `netlist::empty_net` meets its contract: no code is 0 twelve and thirty-two times.

use mathlib.Core.Path.{refl}
use Rattle.model.specs.Gather.{gather}
use Rattle.netlist.specs.RecordOf.{record_of}
use Rattle.netlist.proofs.empty_net.Goals as goal

pub returns : goal.returns
unfolding record_of gather
returns c = refl
