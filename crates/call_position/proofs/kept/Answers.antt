-- `call_position::kept` meets its contract: each arm knows its move.

use Rattle.call_position.specs.Moves.{kept_at}
use Rattle.call_position.proofs.kept.Goals as goal

pub returns-in-Begin : goal.returns-in-Begin
unfolding kept_at
returns-in-Begin c = rw c.in-Begin.is

pub returns-in-On : goal.returns-in-On
unfolding kept_at
returns-in-On c = rw c.in-On.is

pub returns-in-Back : goal.returns-in-Back
unfolding kept_at
returns-in-Back c = rw c.in-Back.is

pub returns-in-NoMove : goal.returns-in-NoMove
unfolding kept_at
returns-in-NoMove c = rw c.in-NoMove.is
