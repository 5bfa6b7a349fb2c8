-- `netlist_scan::any_gate` meets its contract. The loop's invariant: what was found is what the first g gates have, and gate g's own wire
-- is known.

use mathlib.Core.Bool.{false}
use native.Mathlib.Omega.{arith}
use Rattle.netlist_scan.specs.AnyLine.{any_gate}
use Rattle.model.proofs.Search.{any_none, any_next}
use Rattle.netlist_scan.proofs.any_gate.Goals as goal

pub loop-g-init : goal.loop-g-init
unfolding any_gate
loop-g-init c = (omega arith, any_none false _)

pub loop-g-preserved : goal.loop-g-preserved
unfolding any_gate
loop-g-preserved c = (
  omega arith,
  rw (c.loop-g.invariant.1, c.gate_fault-any.ensures, c.loop-g.invariant.0) (any_next false _ c.loop-g.g),
)
