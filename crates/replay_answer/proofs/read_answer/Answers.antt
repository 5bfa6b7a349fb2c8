-- `replay_answer::read_answer` meets its contract: the answer is one piece.

use mathlib.Core.List.{[]}
use Rattle.replay_answer.proofs.read_answer.Goals as goal

pub returns : goal.returns
returns c =
    let start = c.scan_start-start.ensures.behind _ c.requires in
    let read = c.scan_bytes-scan.ensures.behind [] start in
    c.scan_end.ensures.answer _ _ read
