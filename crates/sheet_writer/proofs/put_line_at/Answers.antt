-- `sheet_writer::put_line_at` meets its contract: the line due is one that the record has.

use Rattle.netlist.specs.NetOf.{alone}
use Rattle.netlist.proofs.Places.{has-line_at}
use Rattle.sheet_writer.proofs.Printed.{known-row, printed-due}
use Rattle.sheet_writer.proofs.put_line_at.Goals as goal

pub printed_line-requires : goal.printed_line-requires
printed_line-requires c = (c.requires.0, rw c.line_at-line.ensures (has-line_at (alone c.args.net) c.args.place))

pub put_line-requires : goal.put_line-requires
put_line-requires c = (rw c.printed_line.ensures (known-row _ c.line_at-line.result), c.requires.1)

pub returns : goal.returns
returns c = rw (← c.line_at-line.ensures, ← printed-due _ c.line_at-line.result, ← c.printed_line.ensures) c.put_line.ensures
