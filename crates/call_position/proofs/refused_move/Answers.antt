-- `call_position::refused_move` meets its contract.

use Rattle.call_position.specs.Moves.{with_position}
use Rattle.call_position.proofs.refused_move.Goals as goal

pub returns : goal.returns
unfolding with_position
returns c = rw (c.number-number.ensures, c.kept.ensures)
