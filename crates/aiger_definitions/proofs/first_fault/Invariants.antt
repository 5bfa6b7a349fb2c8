-- `aiger_definitions::first_fault` meets its contract. The loop's invariant: no variable below the block has a fault before the first that was found.

use Prim.Native.Nat.{◌-◌, ◌≤◌}
use mathlib.Core.Path.{◌≡◌}
use lib.ListN.{length}
use Rattle.aiger_definitions.specs.Blocks.{fault_of, Judged}
use Rattle.aiger_definitions.proofs.first_fault.Given as goal

abbrev pub invariant-loop-base : goal.invariant-loop-base
invariant-loop-base l =
    (1 ≤ l.base) × Judged (fault_of l.fault l.text l.lines) l.lines 1 l.lines l.first l.base × (length l.marks ≡ 262144)

abbrev pub decreases-loop-base : goal.decreases-loop-base
decreases-loop-base l = 4294967296 - l.base
