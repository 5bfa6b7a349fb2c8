-- `sheet_lines::is_wanted` meets its contract.

use Rattle.sheet_lines.proofs.is_wanted.Goals as goal

pub returns-in-Empty : goal.returns-in-Empty
returns-in-Empty c = rw (c.in-Empty.is, c.content_of-content.ensures)

pub returns-in-Filled : goal.returns-in-Filled
returns-in-Filled c = rw (c.in-Filled.is, c.content_of-content.ensures)

pub returns-in-Misprinted : goal.returns-in-Misprinted
returns-in-Misprinted c = rw c.in-Misprinted.is
