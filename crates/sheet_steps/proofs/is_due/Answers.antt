-- `sheet_steps::is_due` meets its contract, by rows of the table.

use Rattle.sheet_steps.proofs.is_due.Goals as goal

pub returns : goal.returns
returns c = rw (c.row_of-row.ensures, c.row_due-wanted.ensures)
