-- `clause_variables::selected` meets its contract.

use mathlib.Core.Path.{◌∙◌}
use native.Mathlib.Omega.{arith}
use borrow.Author.Rules.{rules}
use Rattle.model.specs.Variables.{selected}
use Rattle.netlist.specs.NetOf.{net_of, alone}
use Rattle.clause_variables.specs.PortOf.{port_of}
use Rattle.clause_variables.proofs.Room.{pair-has-number, behind-bits}
use Rattle.clause_variables.proofs.selected.Goals as goal

pub pair_base-requires : goal.pair_base-requires
pair_base-requires c = let p = c.requires in (p.0, omega arith, p.2)

pub overflow_add-net : goal.overflow_add-net
unfolding net_of
overflow_add-net c = search rules

pub in_pair-requires : goal.in_pair-requires
unfolding net_of
in_pair-requires c =
    let p = c.requires in
    (rw c.pair_base.ensures (pair-has-number _ _ p.0 _ _ _ p.1 p.2 (omega arith)), omega arith)

pub returns : goal.returns
unfolding selected net_of
returns c =
    record { literal = c.in_pair.ensures.literal ∙ behind-bits (alone c.args.net) (port_of c.args.port) c.args.j c.args.i _ 4 c.pair_base.ensures; number = c.in_pair.ensures.number }
