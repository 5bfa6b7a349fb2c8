-- `call_position::test_move` meets its contract: each arm knows its move.

use Rattle.call_position.specs.Moves.{test_move}
use Rattle.call_position.proofs.test_move.Goals as goal

pub returns-in-Begin : goal.returns-in-Begin
unfolding test_move
returns-in-Begin c = rw c.in-Begin.is

pub returns-in-On : goal.returns-in-On
unfolding test_move
returns-in-On c = rw c.in-On.is c.test_next.ensures

pub returns-in-Back : goal.returns-in-Back
unfolding test_move
returns-in-Back c = rw c.in-Back.is c.test_frame.ensures

pub returns-in-NoMove : goal.returns-in-NoMove
unfolding test_move
returns-in-NoMove c = rw c.in-NoMove.is
