-- `call_unpacked::test_group` meets its contract: the first test that refuses answers.

use mathlib.Core.List.{[]}
use mathlib.Core.Path.{◌≡◌, sym, ◌∙◌}
use Rattle.std.proofs.lemmas.Result.{err_from_is_err_and}
use Rattle.refusals.specs.Verdict.{Passed, refuse}
use Rattle.refusals.specs.Tests.{◌then◌}
use Rattle.refusals.specs.declared.Refusal.TheVariants.{NoSuchGroup}
use Rattle.netlist.specs.NetOf.{net_of}
use Rattle.netlist.proofs.NetOf.{sizes-lists}
use Rattle.netlist_tests.specs.Record.{record_verdict}
use Rattle.call_unpacked.specs.Calls.{test_depth, test_group}
use Rattle.call_unpacked.proofs.Calls.{depth-shown, depth-more}
use Rattle.call_unpacked.proofs.test_group.Goals as goal
use Rattle.call_unpacked.proofs.test_group.Goals.{In_ok-test_depth}

pub returns-in_err-test_depth : goal.returns-in_err-test_depth
unfolding ◌then◌
returns-in_err-test_depth c =
    let p = err_from_is_err_and c.from_residual.result c.from_residual.ensures.1 in
    rw (p.1, p.2) (sym (depth-more _ _ _ _ (test_group (net_of c.args.net c.args.latches.now c.args.gates.now) c.args.depth c.args.group) (c.in_err-test_depth.ensures)))

pub port_count-requires : goal.port_count-requires
port_count-requires c =
    let tested = sym c.in_ok-test_depth.ensures in
    sizes-lists _ _ _ [] [] (depth-shown _ _ _ _ tested).0.limits.sizes

-- the record and the depth have passed their tests
asked : (c : In_ok-test_depth) →
    test_group (net_of c.args.net c.args.latches.now c.args.gates.now) c.args.depth c.args.group
    ≡ record_verdict (net_of c.args.net c.args.latches.now c.args.gates.now) c.args.latch_count c.args.gate_count then test_depth c.args.depth
    then test_group (net_of c.args.net c.args.latches.now c.args.gates.now) c.args.depth c.args.group
unfolding ◌then◌
asked c =
    sym (depth-more _ _ _ _ (test_group (net_of c.args.net c.args.latches.now c.args.gates.now) c.args.depth c.args.group)
    (c.in_ok-test_depth.ensures))

pub returns-then-not-is_in_depth : goal.returns-then-not-is_in_depth
unfolding test_group net_of
returns-then-not-is_in_depth c =
    let there = rw c.port_count.ensures at c.is_in_depth.ensures in
    let e : test_group (net_of c.args.net c.args.latches.now c.args.gates.now) c.args.depth c.args.group ≡ refuse NoSuchGroup 0 = rw (sym there ∙ c.if-not-is_in_depth.true) in
    sym e ∙ asked (goal.at.returns-then-not-is_in_depth c).In_ok-test_depth

pub returns : goal.returns
unfolding test_group net_of
returns c =
    let there = rw c.port_count.ensures at c.is_in_depth.ensures in
    let e : test_group (net_of c.args.net c.args.latches.now c.args.gates.now) c.args.depth c.args.group ≡ Passed = rw (sym there ∙ c.if-not-is_in_depth.false) in
    sym e ∙ asked (goal.at.returns c).In_ok-test_depth
