-- `call_replies::heading_numbers` meets its contract: each arm knows its answer.

use Rattle.call_unpacked.specs.Calls.{heading_reply, with_heading}
use Rattle.call_replies.proofs.heading_numbers.Goals as goal

pub returns-in-Ok : goal.returns-in-Ok
unfolding heading_reply with_heading
returns-in-Ok c = rw c.in-Ok.is

pub returns-in-Err : goal.returns-in-Err
unfolding heading_reply with_heading
returns-in-Err c = rw (c.in-Err.is, c.number.ensures)
