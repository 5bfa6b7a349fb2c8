-- `sheet_parse::progress_with` meets its contract: each arm knows its verdict.

use Rattle.sheet_parse.proofs.progress_with.Goals as goal

pub returns-in-Ok : goal.returns-in-Ok
returns-in-Ok c = rw c.in-Ok.is

pub returns-in-Err : goal.returns-in-Err
returns-in-Err c = rw c.in-Err.is
