-- `sheet_writer::put_column` meets its contract: a field, or ten spaces.

use native.Mathlib.Omega.{arith}
use Rattle.decimal.proofs.Digits.{length-field}
use Rattle.sheet_writer.proofs.put_column.Goals as goal

pub returns-then-filled : goal.returns-then-filled
returns-then-filled c = let w = c.put_field.ensures in
    rw c.if-filled.true (w, omega (arith, w.counted, length-field c.args.x c.ranges.x.fits))

pub returns : goal.returns
returns c = let w = c.write_word.ensures in
    rw c.if-filled.false (w, omega (arith, w.counted))
