-- `sheet_lines::left_empty` meets its contract: the table's 2, then the field.

use mathlib.Core.Path.{sym, ◌∙◌}
use borrow.Author.Tests.{eq-eqb}
use Rattle.sheet_lines.specs.Letters.{content_of}
use Rattle.sheet_lines.proofs.Lines.{left-firm}
use Rattle.sheet_lines.proofs.left_empty.Goals as goal

pub returns-in-Empty : goal.returns-in-Empty
returns-in-Empty c =
    rw (c.in-Empty.is, eq-eqb (content_of c.args.kind 2) 2 (sym c.content_of.ensures ∙ c.if-content_of-eq-MAY_BE_EMPTY.true))

pub returns-in-Filled : goal.returns-in-Filled
returns-in-Filled c = rw c.in-Filled.is

pub returns-in-Misprinted : goal.returns-in-Misprinted
returns-in-Misprinted c = rw c.in-Misprinted.is

pub returns : goal.returns
returns c =
    sym (left-firm (content_of c.args.kind 2) c.args.third (λ e. c.if-content_of-eq-MAY_BE_EMPTY.false (c.content_of.ensures ∙ e)))
