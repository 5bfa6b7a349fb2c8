-- `netlist::put_numbers` meets its contract: two stores.

use mathlib.Core.Path.{refl}
use Rattle.netlist.specs.NetOf.{put_numbers}
use Rattle.netlist.proofs.put_numbers.Goals as goal

pub returns : goal.returns
unfolding put_numbers
returns c = refl
