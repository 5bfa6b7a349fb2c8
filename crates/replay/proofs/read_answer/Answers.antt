-- `replay::read_answer` meets its contract: what the scan is behind is the answer's text.

use Rattle.replay.proofs.read_answer.Goals as goal

pub returns-clause-read : goal.returns-clause-read
returns-clause-read g c =
    let scanned = c.scan_file.ensures.behind in
    record { text = scanned.text; counted = scanned.counted; holds = c.scan_end-2.ensures.answer _ _ scanned.holds }
