-- `group_pair_select::put_select` meets its contract.

use mathlib.Core.Path.{◌∙◌}
use borrow.Author.Rules.{rules}
use Rattle.model.specs.Variables.{pair_literals}
use Rattle.netlist.specs.NetOf.{net_of, alone}
use Rattle.clause_variables.specs.PortOf.{port_of}
use Rattle.clause_variables.specs.OfPair.{of_pair}
use Rattle.clause_variables.proofs.Room.{numbered, behind-bits}
use Rattle.group_pair_select.proofs.PairGates.{pair-gates}
use Rattle.group_pair_select.proofs.put_select.Goals as goal

pub in_pair-address_equal-requires : goal.in_pair-address_equal-requires
in_pair-address_equal-requires c = search (rules, numbered)

pub overflow_add-net : goal.overflow_add-net
unfolding net_of
overflow_add-net c = search rules

pub in_pair-valid-requires : goal.in_pair-valid-requires
unfolding net_of
in_pair-valid-requires c = (search (rules, numbered), search rules)

pub in_frame-write_enable-requires : goal.in_frame-write_enable-requires
unfolding net_of
in_frame-write_enable-requires c = search (rules, numbered)

pub returns : goal.returns
unfolding pair_literals net_of
returns c =
    let q = c.pair_base-q.ensures in
    pair-gates (of_pair c.args.net c.args.port c.args.j c.args.i)
    (c.in_pair-valid.ensures.literal ∙ behind-bits (alone c.args.net) (port_of c.args.port) c.args.j c.args.i _ 2 q)
    (rw q at c.in_pair-address_equal.ensures.literal)
    (rw c.frame_base.ensures at c.in_frame-write_enable.ensures.literal)
    c.none_since-none_since.ensures.literal
    c.selected-selected.ensures.literal
    c.none_since-none_after.ensures.literal
    c.put_select_gates.ensures
