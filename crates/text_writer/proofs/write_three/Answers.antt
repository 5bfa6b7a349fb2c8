-- `text_writer::write_three` meets its contract: the three bytes come from the table.

use native.Mathlib.Omega.{arith}
use Rattle.text_writer.proofs.Table.{length-table, wrote-three-by}
use Rattle.text_writer.proofs.write_three.Goals as goal

pub bounds-table-i : goal.bounds-table-i
bounds-table-i c =
    omega (arith, length-table c.args.table.now c.requires.0)

pub bounds-table-i-2 : goal.bounds-table-i-2
bounds-table-i-2 c =
    omega (arith, length-table c.args.table.now c.requires.0)

pub bounds-table-i-3 : goal.bounds-table-i-3
bounds-table-i-3 c =
    omega (arith, length-table c.args.table.now c.requires.0)

pub returns : goal.returns
returns c =
    wrote-three-by c.args.table.now c.requires.0 c.args.x c.args.out.now c.requires.1 c.requires.2 c.requires.3
