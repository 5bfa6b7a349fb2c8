-- `aiger_export::first_reset` meets its contract. The loop's invariant: none of the first l latches has reset 1.

use Prim.Native.Nat.{ℕ, ◌<◌}
use mathlib.Core.Path.{◌≡◌}
use mathlib.Core.Bool.{false}
use lib.Dec.{eqb}
use Rattle.netlist.specs.NetOf.{second_at}
use Rattle.aiger_export.proofs.first_reset.Given as goal

abbrev pub invariant-loop-l : goal.invariant-loop-l
invariant-loop-l lo = (q : ℕ) → q < lo.l → eqb (second_at lo.latches q) 1 ≡ false
