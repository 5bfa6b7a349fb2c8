-- `sheet_parse::line_after` meets its contract: there is no line, or there is one.

use mathlib.Core.Path.{◌≡◌, sym, ◌∙◌}
use mathlib.Core.Bool.{true}
use native.Mathlib.Omega.{arith}
use Rattle.sheet_parse.specs.LineAnswers.{has_line}
use Rattle.sheet_parse.proofs.LineAnswers.{line-there, after_none, after-there}
use Rattle.sheet_parse.proofs.line_after.Goals as goal
use Rattle.sheet_parse.proofs.line_after.Goals.{Else-not-has_line}

-- what the test that is passed says
there : (c : Else-not-has_line) → has_line c.args.file.now c.args.line ≡ true
there c = sym c.has_line.ensures ∙ c.if-not-has_line.false

pub returns-then-not-has_line : goal.returns-then-not-has_line
returns-then-not-has_line c =
    c.no_line.ensures ∙ sym (after_none c.args.file.now c.args.line (sym c.has_line.ensures ∙ c.if-not-has_line.true))

pub overflow_add-place : goal.overflow_add-place
overflow_add-place c =
    record { fits = omega (arith, (line-there c.args.file.now c.args.line (there c)).0) }

pub parse_line-requires : goal.parse_line-requires
parse_line-requires c =
    (line-there c.args.file.now c.args.line (there c)).1

pub returns : goal.returns
returns c = rw (c.answer_of.ensures, c.parse_line.ensures, after-there _ _ (there (goal.at.returns c).Else-not-has_line))
