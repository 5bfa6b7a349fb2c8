-- `call_position::moved` meets its contract: each arm knows its move.

use native.Mathlib.Omega.{arith}
use Rattle.netlist.specs.NetOf.{alone}
use Rattle.call_position.specs.Moves.{test_move, moved_to}
use Rattle.call_position.proofs.Positions.{frame-shown}
use Rattle.call_position.proofs.moved.Goals as goal

pub next-requires : goal.next-requires
unfolding test_move
next-requires c =
    let pre = c.requires in
    let shown = frame-shown (alone c.args.net) c.args.position _ (rw c.in-On.is at pre.2) in
    (pre.0, omega (arith, shown.0, pre.1), shown.1)

pub returns-in-Begin : goal.returns-in-Begin
unfolding moved_to
returns-in-Begin c = rw c.in-Begin.is (c.first.ensures (alone c.args.net))

pub returns-in-On : goal.returns-in-On
unfolding moved_to
returns-in-On c = rw c.in-On.is c.next.ensures

pub returns-in-Back : goal.returns-in-Back
unfolding moved_to
returns-in-Back c = rw c.in-Back.is (c.first-in-Back.ensures (alone c.args.net))

pub returns-in-NoMove : goal.returns-in-NoMove
unfolding moved_to
returns-in-NoMove c = rw c.in-NoMove.is
