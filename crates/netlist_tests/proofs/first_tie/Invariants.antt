-- `netlist_tests::first_tie` meets its contract. The loop's invariant: none of the first t codes is tied.

use Prim.Native.Nat.{ℕ, ◌<◌}
use mathlib.Core.Path.{◌≡◌}
use mathlib.Core.Bool.{false}
use Rattle.netlist.specs.NetOf.{code_of}
use Rattle.netlist.specs.Faults.{is_tied}
use Rattle.netlist_tests.proofs.first_tie.Given as goal

abbrev pub invariant-loop-t : goal.invariant-loop-t
invariant-loop-t l = (q : ℕ) → q < l.t → is_tied (code_of l.address) q ≡ false
