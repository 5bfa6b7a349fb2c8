-- `call_position::group_at` meets its contract: the tests up to 8, those of the record, then what is left of the call.

use mathlib.Core.Path.{◌≡◌, refl, sym, ◌∙◌}
use mathlib.Core.List.{[]}
use Prim.Native.Nat.{ℕ}
use lib.ListN.{length}
use Rattle.std.proofs.lemmas.Result.{err_from_is_err_and}
use Rattle.refusals.specs.Tests.{◌then◌}
use Rattle.refusals.specs.Slices.{count_reply, with_count, contents_after}
use Rattle.netlist.specs.NetOf.{net_of}
use Rattle.netlist.proofs.NetOf.{sizes-lists}
use Rattle.call_unpacked.specs.Calls.{test_group_room}
use Rattle.call_unpacked.proofs.Calls.{group-shown}
use Rattle.call_position.specs.Positions.{test_frame}
use Rattle.call_position.specs.GroupsAt.{group_at_verdict, group_at_sent, group_at_leaves}
use Rattle.call_position.proofs.Positions.{test_frame-lists}
use Rattle.call_position.proofs.GroupsAt.{group-at-tested}
use Rattle.call_position.proofs.group_at.Goals as goal
use Rattle.call_position.proofs.group_at.Goals.{After-test_frame}

pub returns-in_err-test_group : goal.returns-in_err-test_group
unfolding count_reply group_at_sent group_at_leaves with_count contents_after ◌then◌
returns-in_err-test_group c =
    let p = err_from_is_err_and c.from_residual.result c.from_residual.ensures.1 in
    let v = group-at-tested _ _ _ c.args.position c.args.group (length c.args.out.now) (c.in_err-test_group.ensures) refl in
    record { answer = rw (p.1, p.2, v); borrowed = rw v }

pub test_frame-requires : goal.test_frame-requires
test_frame-requires c =
    let ok = group-shown _ _ _ _ _ (sym c.in_ok-test_group.ensures) in
    (sizes-lists _ _ _ [] [] ok.0.limits.sizes, ok.1)

-- what the test of the frame says of the record with its lists
framed : (c : After-test_frame) →
    c.test_frame.result ≡ test_frame (net_of c.args.net c.args.latches.now c.args.gates.now) c.args.position c.args.position.frame
framed c = c.test_frame.ensures ∙ test_frame-lists c.args.net c.args.latches.now c.args.gates.now c.args.position c.args.position.frame

-- behind the tests up to 8 those of the record decide, and of 10 and 9
tested : (c : After-test_frame) →
    (room : ℕ) →
    group_at_verdict (net_of c.args.net c.args.latches.now c.args.gates.now) c.args.latch_count c.args.gate_count c.args.position c.args.group room
    ≡ c.test_frame.result then test_group_room (net_of c.args.net c.args.latches.now c.args.gates.now) c.args.position.depth c.args.group room
unfolding ◌then◌
tested c room = group-at-tested _ _ _ c.args.position c.args.group room c.in_ok-test_group.ensures (framed c)

pub returns-in_err-test_frame : goal.returns-in_err-test_frame
unfolding count_reply group_at_sent group_at_leaves with_count contents_after ◌then◌
returns-in_err-test_frame c =
    let p = err_from_is_err_and c.from_residual-in_err-test_frame.result c.from_residual-in_err-test_frame.ensures.1 in
    let v = rw c.in_err-test_frame.was at (tested (goal.at.returns-in_err-test_frame c).After-test_frame (length c.args.out.now)) in
    record { answer = rw (p.1, p.2, v); borrowed = rw v }

pub write_tested-requires : goal.write_tested-requires
write_tested-requires c = group-shown _ _ _ _ _ (sym c.in_ok-test_group.ensures)

pub returns : goal.returns
unfolding group_at_sent group_at_leaves ◌then◌
returns c =
    let v = rw c.in_ok-test_frame.was at (tested (goal.at.returns c).After-test_frame (length c.args.out.now)) in
    record { answer = rw v c.write_tested.ensures.answer; borrowed = rw v c.write_tested.ensures.borrowed }
