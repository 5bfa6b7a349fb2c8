-- `netlist_scan::any_latch` meets its contract. The loop's invariant: what was found is what the first l latches have.

use mathlib.Core.Bool.{false}
use Rattle.netlist_scan.specs.AnyLine.{any_latch}
use Rattle.model.proofs.Search.{any_none, any_next}
use Rattle.netlist_scan.proofs.any_latch.Goals as goal

pub loop-l-init : goal.loop-l-init
unfolding any_latch
loop-l-init c = any_none false _

pub loop-l-preserved : goal.loop-l-preserved
unfolding any_latch
loop-l-preserved c = rw (c.loop-l.invariant, c.latch_fault-any.ensures) (any_next false _ c.loop-l.l)
