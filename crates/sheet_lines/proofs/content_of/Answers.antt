-- `sheet_lines::content_of` meets its contract, by the rule of the table.

use Rattle.sheet_lines.proofs.Letters.{content-at}
use Rattle.sheet_lines.proofs.content_of.Goals as goal

pub returns : goal.returns
returns c =
    content-at c.contents-table.result c.contents-table.ensures c.args.kind c.row_of-row.result c.args.column
    c.row_of-row.ensures c.requires.0 c.requires.1
