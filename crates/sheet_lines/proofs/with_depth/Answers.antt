-- `sheet_lines::with_depth` meets its contract.

use Rattle.sheet_lines.specs.Depth.{with_depth}
use Rattle.sheet_lines.proofs.with_depth.Goals as goal

pub returns-in-Ok : goal.returns-in-Ok
unfolding with_depth
returns-in-Ok c = rw (c.in-Ok.is, c.value_of-depth.ensures)

pub returns-in-Err : goal.returns-in-Err
unfolding with_depth
returns-in-Err c = rw c.in-Err.is
