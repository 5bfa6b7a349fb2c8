-- `marrubigai::marrubigai_read` meets its contract: it is that of `read`, in numbers.
use Rattle.call_replies.specs.Replies.{sheet_numbers}
use Rattle.marrubigai.proofs.marrubigai_read.Goals as goal

pub returns-clause-accepted : goal.returns-clause-accepted
unfolding sheet_numbers
returns-clause-accepted c = rw c.sheet_numbers.ensures c.read.ensures.accepted
