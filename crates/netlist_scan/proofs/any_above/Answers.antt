-- `netlist_scan::any_above` meets its contract. The loop's invariant: what was found is what the codes before have.

use mathlib.Core.Bool.{false}
use Rattle.netlist.specs.NetOf.{code_of}
use Rattle.netlist_scan.specs.AnyLine.{any_above}
use Rattle.model.proofs.Search.{any_none, any_next}
use Rattle.netlist_scan.proofs.any_above.Goals as goal

pub loop-code-init : goal.loop-code-init
unfolding any_above
loop-code-init c = any_none false _

pub loop-code-preserved : goal.loop-code-preserved
unfolding code_of any_above
loop-code-preserved c = rw (c.loop-code.invariant, c.is_above-any.ensures) (any_next false _ c.loop-code.code-index)
