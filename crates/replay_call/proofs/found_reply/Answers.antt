-- `replay_call::found_reply` meets its contract.

use Rattle.replay_call.specs.ReplayCall.{replay_reply}
use Rattle.replay_call.proofs.found_reply.Goals as goal

pub returns-in-Broken : goal.returns-in-Broken
unfolding replay_reply
returns-in-Broken c = rw c.in-Broken.is

pub returns-in-ClaimedUnsatisfiable : goal.returns-in-ClaimedUnsatisfiable
unfolding replay_reply
returns-in-ClaimedUnsatisfiable c = rw c.in-ClaimedUnsatisfiable.is
