-- `sheet_writer::is_printed` meets its contract: by the number that the table has for a column.

use Rattle.sheet_writer.proofs.is_printed.Goals as goal

pub returns : goal.returns
returns c = λ x. rw c.content_of-content.ensures
