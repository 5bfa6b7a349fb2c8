-- `call_replies::sheet_numbers` meets its contract: it is the definition.

use Rattle.call_replies.specs.Replies.{sheet_numbers}
use Rattle.call_replies.proofs.sheet_numbers.Goals as goal

pub returns : goal.returns
unfolding sheet_numbers
returns c = rw c.reply_of-reply.ensures
