-- `sheet_lines::second_port_of` meets its contract, by rows of the table.

use mathlib.Core.Path.{sym, ◌∙◌}
use borrow.Author.Tests.{eq-eqb, ne_eqb}
use Rattle.sheet_lines.specs.Letters.{row_of}
use Rattle.sheet_lines.proofs.second_port_of.Goals as goal

pub returns-then-row_of : goal.returns-then-row_of
returns-then-row_of c =
    rw (eq-eqb (row_of c.args.kind) 2 (sym c.row_of.ensures ∙ c.if-row_of.true ∙ c.row_of-2.ensures))

pub returns : goal.returns
returns c =
    rw (ne_eqb (row_of c.args.kind) 2 (λ e. c.if-row_of.false (c.row_of.ensures ∙ e ∙ sym c.row_of-2.ensures)))
