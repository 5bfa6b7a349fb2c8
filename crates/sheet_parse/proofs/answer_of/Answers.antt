-- `sheet_parse::answer_of` meets its contract: each arm knows its line.

use Rattle.sheet_parse.proofs.answer_of.Goals as goal

pub returns-in-Misprint : goal.returns-in-Misprint
returns-in-Misprint c = rw c.in-Misprint.is

pub returns-in-Read : goal.returns-in-Read
returns-in-Read c = rw c.in-Read.is
