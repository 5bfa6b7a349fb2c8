-- `netlist_scan::any_latch` meets its contract. The loop's invariant: what was found is what the first l latches have.

use mathlib.Core.Path.{◌≡◌}
use Rattle.netlist_scan.specs.AnyLine.{any_latch}
use Rattle.netlist_scan.proofs.any_latch.Given as goal

abbrev pub invariant-loop-l : goal.invariant-loop-l
invariant-loop-l lo = lo.any ≡ any_latch lo.last.0 lo.latches lo.l
