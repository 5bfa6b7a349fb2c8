-- `netlist_scan::any_gate` meets its contract. The loop's invariant: what was found is what the first g gates have, and gate g's own wire
-- is known.

use Prim.Native.Nat.{◌+◌}
use mathlib.Core.Path.{◌≡◌}
use Rattle.netlist_scan.specs.AnyLine.{any_gate}
use Rattle.netlist_scan.proofs.any_gate.Given as goal

abbrev pub invariant-loop-g : goal.invariant-loop-g
invariant-loop-g l = (l.own.0 ≡ l.initial.own.0 + l.g) × (l.any ≡ any_gate l.initial.own.0 l.gates l.g)
