-- `netlist_tests::any_dependent` meets its contract. The loop's invariant: what was found is what the address codes before have.

use Prim.Native.Nat.{◌/◌}
use mathlib.Core.Path.{◌≡◌}
use Rattle.model.specs.Search.{any_below}
use Rattle.netlist.specs.NetOf.{code_of}
use Rattle.netlist.specs.WireTable.{entry}
use Rattle.netlist_tests.proofs.any_dependent.Given as goal

abbrev pub invariant-loop-code : goal.invariant-loop-code
invariant-loop-code l = l.any ≡ any_below l.code-index (λ x. entry l.flags (code_of l.fn.address x / 2))
