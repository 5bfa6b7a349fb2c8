-- `netlist_tests::is_tied` meets its contract. The loop's invariant: what was found is whether the wire is that of one of the codes before.

use Prim.Native.Nat.{◌<◌, ◌≤◌}
use mathlib.Core.Path.{◌≡◌}
use mathlib.Core.Bool.{false}
use native.Mathlib.Omega.{arith}
use lib.ListN.{length}
use Rattle.std.proofs.lemmas.List.{get_or-take, length-take-le}
use Rattle.model.specs.Search.{seen}
use Rattle.model.proofs.Search.{any_none, any_next}
use Rattle.netlist.specs.NetOf.{code_of}
use Rattle.netlist.specs.Faults.{is_tied}
use Rattle.netlist_tests.proofs.is_tied.Goals as goal

pub loop-earlier-init : goal.loop-earlier-init
unfolding seen
loop-earlier-init c = any_none false _

pub loop-earlier-preserved : goal.loop-earlier-preserved
unfolding code_of seen
loop-earlier-preserved c =
    let fits : c.args.t ≤ length c.args.address = omega arith in
    let before : c.loop-earlier.earlier-index < c.args.t = omega (arith, length-take-le c.args.t c.args.address fits) in
    rw (c.loop-earlier.invariant, c.wire_index.ensures, get_or-take c.args.t c.args.address c.loop-earlier.earlier-index (record { 0 = 0 }) before) (any_next false _ c.loop-earlier.earlier-index)

pub returns : goal.returns
unfolding code_of is_tied
returns c =
    let fits : c.args.t ≤ length c.args.address = omega arith in
    let all : c.loop-earlier.earlier-index ≡ c.args.t = omega (arith, length-take-le c.args.t c.args.address fits) in
    rw (c.loop-earlier.invariant, all, c.wire_index-own.ensures)
