-- `call_position::move_position` meets its contract: the first test that refuses answers, or the record moves.

use mathlib.Core.Path.{◌≡◌, refl, sym, ◌∙◌}
use mathlib.Core.List.{[]}
use Prim.Native.Nat.{◌≤◌}
use Rattle.model.specs.Acceptance.{SizesFit}
use Rattle.refusals.specs.Tests.{◌then◌}
use Rattle.netlist.specs.NetOf.{net_of, alone}
use Rattle.netlist.proofs.NetOf.{sizes-lists}
use Rattle.call_unpacked.proofs.Calls.{depth-shown}
use Rattle.call_position.specs.Moves.{move_of, move_verdict, with_position, move_sent}
use Rattle.call_position.proofs.Moves.{test_move-lists, moved_to-lists, move-tested}
use Rattle.call_position.proofs.move_position.Goals as goal
use Rattle.call_position.proofs.move_position.Goals.{After-test_move, In_default}

pub returns-in-Err : goal.returns-in-Err
unfolding move_sent with_position ◌then◌
returns-in-Err c =
    let v = move-tested _ _ _ c.args.position (move_of c.args.way) (sym c.in-Err.is ∙ c.test_depth.ensures) refl in
    rw (c.refused_move.ensures, c.move_of-way.ensures, v)

-- what the tests of the record and of the depth have shown
shown : (c : In_default) →
    SizesFit (alone c.args.net) × (c.args.position.depth ≤ 255)
shown c =
    let ok = depth-shown _ _ _ _ (sym c.test_depth.ensures ∙ c.in_default.is) in
    (sizes-lists _ _ _ [] [] ok.0.limits.sizes, ok.1)

-- behind them the tests of the move decide
tested : (c : After-test_move) →
    move_verdict (net_of c.args.net c.args.latches.now c.args.gates.now) c.args.latch_count c.args.gate_count c.args.position (move_of c.args.way)
    ≡ c.test_move.result
unfolding ◌then◌
tested c =
    let moves = rw c.move_of-way.ensures at c.test_move.ensures in
    move-tested _ _ _ c.args.position (move_of c.args.way) (sym c.in_default.is ∙ c.test_depth.ensures)
    (moves ∙ test_move-lists c.args.net c.args.latches.now c.args.gates.now c.args.position (move_of c.args.way))

pub test_move-requires : goal.test_move-requires
test_move-requires c = shown c

pub returns-in-Err-test_move : goal.returns-in-Err-test_move
unfolding move_sent with_position
returns-in-Err-test_move c =
    let e = tested (goal.at.returns-in-Err-test_move c).After-test_move in
    rw (c.refused_move-in-Err-test_move.ensures, c.move_of-way.ensures, e ∙ c.in-Err-test_move.is)

pub moved-requires : goal.moved-requires
moved-requires c = ((shown (goal.at.moved-requires c).In_default).0, (shown (goal.at.moved-requires c).In_default).1, sym c.test_move.ensures ∙ c.in_default-test_move.is)

pub returns : goal.returns
unfolding move_sent with_position
returns c =
    let e = tested (goal.at.returns c).After-test_move in
    rw (c.moved.ensures, c.move_of-way.ensures, e ∙ c.in_default-test_move.is, moved_to-lists c.args.net c.args.latches.now c.args.gates.now c.args.position (move_of c.args.way))
