-- `call_replies::numbers_of` meets its contract: each arm knows its group.

use Rattle.call_replies.specs.Replies.{group_numbers}
use Rattle.call_replies.proofs.numbers_of.Goals as goal

pub returns-in-Wires : goal.returns-in-Wires
unfolding group_numbers
returns-in-Wires c = rw c.in-Wires.is

pub returns-in-Pair : goal.returns-in-Pair
unfolding group_numbers
returns-in-Pair c = rw c.in-Pair.is

pub returns-in-Closing : goal.returns-in-Closing
unfolding group_numbers
returns-in-Closing c = rw c.in-Closing.is

pub returns-in-Property : goal.returns-in-Property
unfolding group_numbers
returns-in-Property c = rw c.in-Property.is
