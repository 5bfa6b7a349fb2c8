-- `call_replies::next_numbers` meets its contract: each arm knows what comes next.

use Rattle.call_replies.specs.Replies.{next_numbers}
use Rattle.call_replies.proofs.next_numbers.Goals as goal

pub returns-in-Some : goal.returns-in-Some
unfolding next_numbers
returns-in-Some c = rw (c.in-Some.is, c.numbers_of.ensures)

pub returns-in-None : goal.returns-in-None
unfolding next_numbers
returns-in-None c = rw c.in-None.is
