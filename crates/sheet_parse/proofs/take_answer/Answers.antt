-- `sheet_parse::take_answer` meets its contract: each arm knows its answer.

use mathlib.Core.Path.{refl}
use Rattle.sheet_steps.proofs.Records.{outcome-refused, outcome-passed}
use Rattle.sheet_parse.proofs.take_answer.Goals as goal

pub returns-in-Line : goal.returns-in-Line
returns-in-Line c =
    rw (c.progress_with.ensures, c.in-Line.is) (c.take_line.ensures, refl)

pub returns-in-Refused : goal.returns-in-Refused
returns-in-Refused c =
    rw (c.progress_with-in-Refused.ensures, c.refused.ensures, c.in-Refused.is)
    (outcome-refused c.args.latches.now c.args.gates.now _ refl, refl)

pub returns-in-NoLine : goal.returns-in-NoLine
returns-in-NoLine c =
    rw c.in-NoLine.is
    (outcome-passed c.args.latches.now c.args.gates.now _ c.args.progress.sheet.net (record { full = c.requires.0; net-is = refl }) refl, refl)
