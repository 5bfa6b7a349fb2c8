-- `text_writer::fill_table` meets its contract. The loop's invariant: the four digits of each number below x are written.

use Rattle.model.specs.Wrote.{Wrote}
use Rattle.text_writer.specs.Table.{table_below}
use Rattle.text_writer.proofs.fill_table.Given as goal

abbrev pub invariant-loop-x : goal.invariant-loop-x
invariant-loop-x l = Wrote (table_below l.x) l.initial.table l.table l.at
