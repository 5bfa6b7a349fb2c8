-- `group_property::is_always_violated` meets its contract.

use borrow.Author.Rules.{rules}
use Rattle.netlist.specs.NetOf.{net_of}
use Rattle.clause_variables.proofs.Room.{numbered}
use Rattle.group_property.proofs.is_always_violated.Goals as goal

pub in_frame-property-requires : goal.in_frame-property-requires
unfolding net_of
in_frame-property-requires c = search (rules, numbered)
