-- `replay_call::reply_of` meets its contract.

use Rattle.replay_call.specs.ReplayCall.{replay_reply}
use Rattle.replay_call.proofs.reply_of.Goals as goal

pub returns-in-Ok : goal.returns-in-Ok
returns-in-Ok c = rw c.in-Ok.is c.found_reply.ensures

pub returns-in-Err : goal.returns-in-Err
unfolding replay_reply
returns-in-Err c = rw (c.in-Err.is, c.number.ensures)
