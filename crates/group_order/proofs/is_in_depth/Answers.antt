-- `group_order::is_in_depth` meets its contract: each arm is the definition at its kind.

use Rattle.model.specs.Groups.{in_depth}
use Rattle.group_order.proofs.is_in_depth.Goals as goal

pub returns-in-Wires : goal.returns-in-Wires
unfolding in_depth
returns-in-Wires c = rw c.in-Wires.is

pub returns-in-Pair : goal.returns-in-Pair
unfolding in_depth
returns-in-Pair c = rw c.in-Pair.is

pub returns-in-Closing : goal.returns-in-Closing
unfolding in_depth
returns-in-Closing c = rw c.in-Closing.is

pub returns-in-Property : goal.returns-in-Property
unfolding in_depth
returns-in-Property c = rw c.in-Property.is
