-- `answer_scan::end_number` meets its contract: a number that is not 0 is taken off the line, anything else is malformed.

use Prim.Native.Nat.{◌-◌}
use mathlib.Core.Path.{sym, ◌∙◌}
use native.Mathlib.Omega.{arith}
use lib.ListN.{length, drop, length-drop}
use lib.Seq.{take_all}
use Rattle.answer_lines.proofs.Texts.{marked-length}
use Rattle.answer_scan.proofs.Steps.{values-is, number-elsewhere, number-malformed, number_read}
use Rattle.answer_scan.proofs.end_number.Goals as goal

pub slice_bounds-read_value-count : goal.slice_bounds-read_value-count
slice_bounds-read_value-count c = marked-length c.args.begun.now c.requires.0

pub slice_bounds-read_value-start : goal.slice_bounds-read_value-start
slice_bounds-read_value-start c = omega (arith, slice_bounds-read_value-count c)

pub returns-then-is_values-2 : goal.returns-then-is_values-2
returns-then-is_values-2 c =
    let begun = c.args.begun.now in
    let part = take_all (length begun - 2) (drop 2 begun) (rw length-drop (omega arith)) in
    rw (values-is c.args.progress (sym c.is_values.ensures ∙ c.if-is_values.true))
    (number_read begun c.requires.0 c.requires.1 (rw part at c.read_value-read.ensures) (sym c.is_values-then-is_values.ensures ∙ c.if-is_values-2.true))

pub returns-else-is_values-2 : goal.returns-else-is_values-2
returns-else-is_values-2 c =
    let begun = c.args.begun.now in
    let part = take_all (length begun - 2) (drop 2 begun) (rw length-drop (omega arith)) in
    rw (values-is c.args.progress (sym c.is_values.ensures ∙ c.if-is_values.true))
    (number-malformed begun c.requires.0 c.requires.1 (rw part at c.read_value-read.ensures) (sym c.is_values-then-is_values.ensures ∙ c.if-is_values-2.false))

pub returns-else-is_values : goal.returns-else-is_values
returns-else-is_values c =
    number-elsewhere c.args.begun.now c.requires.0 c.args.progress (sym c.is_values.ensures ∙ c.if-is_values.false)
