-- `sheet_writer::put_line` meets its contract: the letter, three columns by the table, and the line feed, one behind the other.

use native.Mathlib.Omega.{arith}
use Rattle.model.proofs.Wrote.{wrote_then}
use Rattle.sheet_lines.specs.Lines.{line_text}
use Rattle.sheet_writer.specs.Printed.{printed_text}
use Rattle.sheet_writer.proofs.put_line.Goals as goal

pub returns : goal.returns
unfolding printed_text line_text
returns c = let w₁ = rw c.letter_of.ensures at c.write_byte-letter.ensures in
    let line = c.args.line in
    let w₂ = rw (← c.is_printed.ensures line.first) at c.put_column.ensures.0 in
    let w₃ = rw (← c.is_printed-2.ensures line.second) at c.put_column-2.ensures.0 in
    let w₄ = rw (← c.is_printed-3.ensures line.third) at c.put_column-3.ensures.0 in
    (wrote_then _ _ _ _ _ _ _ (wrote_then _ _ _ _ _ _ _ (wrote_then _ _ _ _ _ _ _ (wrote_then _ _ _ _ _ _ _ w₁ w₂) w₃) w₄) c.write_byte.ensures, omega arith)
