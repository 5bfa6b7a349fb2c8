-- `sheet_lines::depth_field` meets its contract: length, line feed, field.

use mathlib.Core.Path.{sym, ◌∙◌}
use native.Mathlib.Omega.{arith}
use lib.Seq.{length-take-le}
use Rattle.sheet_lines.proofs.Depth.{depth_field-columns, depth_field-short, depth_field-no-feed}
use Rattle.sheet_lines.proofs.depth_field.Goals as goal

pub slice_bounds-read_field-end : goal.slice_bounds-read_field-end
slice_bounds-read_field-end c = sym (length-take-le 10 c.args.input.now (omega arith))

pub returns-then-input-eq10 : goal.returns-then-input-eq10
returns-then-input-eq10 c =
    let input = c.args.input.now in
    c.read_field.ensures ∙ sym (depth_field-columns input (omega arith) (omega arith))

pub returns-else-input-eq10 : goal.returns-else-input-eq10
returns-else-input-eq10 c = sym (depth_field-no-feed c.args.input.now c.if-input-ge11.true c.if-input-eq10.false)

pub returns-else-input-ge11 : goal.returns-else-input-ge11
returns-else-input-ge11 c = sym (depth_field-short c.args.input.now c.if-input-ge11.false)
