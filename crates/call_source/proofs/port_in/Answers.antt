-- `call_source::port_in` meets its contract.

use Rattle.call_source.specs.Sources.{port_in}
use Rattle.call_source.proofs.port_in.Goals as goal

pub returns-in-Wires : goal.returns-in-Wires
unfolding port_in
returns-in-Wires c = rw c.in-Wires.is

pub returns-in-Pair : goal.returns-in-Pair
unfolding port_in
returns-in-Pair c = rw c.in-Pair.is

pub returns-in-Closing : goal.returns-in-Closing
unfolding port_in
returns-in-Closing c = rw c.in-Closing.is

pub returns-in-Property : goal.returns-in-Property
unfolding port_in
returns-in-Property c = rw c.in-Property.is
