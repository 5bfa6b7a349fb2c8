-- `call_replies::count_numbers` meets its contract: each arm is the definition.

use Rattle.refusals.specs.Slices.{count_reply, with_count}
use Rattle.call_replies.proofs.count_numbers.Goals as goal

pub returns-in-Ok : goal.returns-in-Ok
unfolding count_reply with_count
returns-in-Ok c = rw c.in-Ok.is

pub returns-in-Err : goal.returns-in-Err
unfolding count_reply with_count
returns-in-Err c = rw (c.in-Err.is, c.number.ensures)
