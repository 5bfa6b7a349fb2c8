-- `text_writer::write_four` meets its contract: the four bytes come from the table.

use native.Mathlib.Omega.{arith}
use Rattle.text_writer.proofs.Table.{length-table, wrote-four-by}
use Rattle.text_writer.proofs.write_four.Goals as goal

pub bounds-table-i : goal.bounds-table-i
bounds-table-i c =
    omega (arith, length-table c.args.table.now c.requires.0)

pub bounds-table-i-2 : goal.bounds-table-i-2
bounds-table-i-2 c =
    omega (arith, length-table c.args.table.now c.requires.0)

pub bounds-table-i-3 : goal.bounds-table-i-3
bounds-table-i-3 c =
    omega (arith, length-table c.args.table.now c.requires.0)

pub bounds-table-i-4 : goal.bounds-table-i-4
bounds-table-i-4 c =
    omega (arith, length-table c.args.table.now c.requires.0)

pub returns : goal.returns
returns c =
    wrote-four-by c.args.table.now c.requires.0 c.args.x c.args.out.now c.requires.1 c.requires.2
