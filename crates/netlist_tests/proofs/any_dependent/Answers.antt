-- `netlist_tests::any_dependent` meets its contract. The loop's invariant: what was found is what the address codes before have.

use Prim.Native.Nat.{◌<◌, ◌≤◌}
use mathlib.Core.Path.{◌≡◌}
use mathlib.Core.Bool.{false}
use native.Mathlib.Omega.{arith}
use lib.ListN.{length}
use Rattle.std.proofs.lemmas.List.{get_or-take, length-take-le}
use Rattle.model.proofs.Search.{any_none, any_next}
use Rattle.netlist.specs.NetOf.{code_of}
use Rattle.netlist_tests.specs.OnePort.{any_dependent}
use Rattle.netlist_tests.proofs.any_dependent.Goals as goal

pub loop-code-init : goal.loop-code-init
loop-code-init c = any_none false _

pub bounds-flags-wire_index : goal.bounds-flags-wire_index
unfolding code_of
bounds-flags-wire_index c =
    let fits : c.args.m ≤ length c.args.address = omega arith in
    let before : c.loop-code.code-index < c.args.m = omega (arith, length-take-le c.args.m c.args.address fits) in
    rw (c.wire_index.ensures, get_or-take c.args.m c.args.address c.loop-code.code-index (record { 0 = 0 }) before)
    (omega (arith, c.requires.1 c.loop-code.code-index before))

pub loop-code-preserved : goal.loop-code-preserved
unfolding code_of
loop-code-preserved c =
    let fits : c.args.m ≤ length c.args.address = omega arith in
    let before : c.loop-code.code-index < c.args.m = omega (arith, length-take-le c.args.m c.args.address fits) in
    rw (c.loop-code.invariant, c.wire_index.ensures, get_or-take c.args.m c.args.address c.loop-code.code-index (record { 0 = 0 }) before) (any_next false _ c.loop-code.code-index)

pub returns : goal.returns
unfolding any_dependent
returns c =
    let fits : c.args.m ≤ length c.args.address = omega arith in
    let all : c.loop-code.code-index ≡ c.args.m = omega (arith, length-take-le c.args.m c.args.address fits) in
    rw (c.loop-code.invariant, all, c.wire_index-2.ensures)
