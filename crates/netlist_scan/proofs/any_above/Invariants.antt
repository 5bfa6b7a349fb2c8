-- `netlist_scan::any_above` meets its contract. The loop's invariant: what was found is what the codes before have.

use mathlib.Core.Path.{◌≡◌}
use Rattle.netlist.specs.NetOf.{code_of}
use Rattle.netlist_scan.specs.AnyLine.{any_above}
use Rattle.netlist_scan.proofs.any_above.Given as goal

abbrev pub invariant-loop-code : goal.invariant-loop-code
invariant-loop-code l = l.any ≡ any_above l.last.0 (code_of l.codes) l.code-index
