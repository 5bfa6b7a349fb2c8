-- `invariant_start::holds_at_start` meets its contract. What is left of the test says what the whole says.

use Prim.Native.Nat.{◌≤◌}
use mathlib.Core.Path.{◌≡◌}
use mathlib.Core.List.{[]}
use lib.ListN.{drop}
use Rattle.netlist.specs.NetOf.{net_of}
use Rattle.invariant_formula.specs.AtStart.{holds_at_start}
use Rattle.invariant_start.proofs.Progress.{left}
use Rattle.invariant_start.proofs.holds_at_start.Given as goal

abbrev pub invariant-loop-number : goal.invariant-loop-number
invariant-loop-number l =
    (1 ≤ l.state) × (l.state ≤ 2) × (left (net_of l.net l.latches []) l.state (drop l.number-index l.invariant') ≡ holds_at_start (net_of l.net l.latches []) l.invariant')
