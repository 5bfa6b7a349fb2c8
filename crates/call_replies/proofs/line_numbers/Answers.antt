-- `call_replies::line_numbers` meets its contract: each arm knows its answer.

use Rattle.sheet_parse.specs.LineAnswers.{line_sent}
use Rattle.call_replies.proofs.line_numbers.Goals as goal

pub returns-in-Line : goal.returns-in-Line
unfolding line_sent
returns-in-Line c = rw (c.in-Line.is, c.letter_of.ensures)

pub returns-in-Refused : goal.returns-in-Refused
unfolding line_sent
returns-in-Refused c = rw (c.in-Refused.is, c.without_fields.ensures, c.number.ensures)

pub returns-in-NoLine : goal.returns-in-NoLine
unfolding line_sent
returns-in-NoLine c = rw (c.in-NoLine.is, c.without_fields-in-NoLine.ensures)
