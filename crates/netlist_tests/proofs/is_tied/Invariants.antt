-- `netlist_tests::is_tied` meets its contract. The loop's invariant: what was found is whether the wire is that of one of the codes before.

use Prim.Native.Nat.{◌/◌}
use mathlib.Core.Path.{◌≡◌}
use Rattle.model.specs.Search.{seen}
use Rattle.netlist.specs.NetOf.{code_of}
use Rattle.netlist_tests.proofs.is_tied.Given as goal

abbrev pub invariant-loop-earlier : goal.invariant-loop-earlier
invariant-loop-earlier l = l.any ≡ seen (λ x. code_of l.fn.address x / 2) l.earlier-index l.own
