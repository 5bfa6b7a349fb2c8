-- `call_source::of_pair` meets its contract.

use mathlib.Core.Path.{◌≡◌, ◌∙◌}
use native.Mathlib.Omega.{arith}
use Rattle.model.specs.Variables.{base, pair_base}
use Rattle.literals.specs.Numbering.{base_of, pair_base_of}
use Rattle.netlist.specs.NetOf.{net_of, alone}
use Rattle.clause_variables.specs.PortOf.{port_of}
use Rattle.clause_variables.proofs.Room.{numbering-fits, behind-bits}
use Rattle.call_source.proofs.Sources.{pair-has-number}
use Rattle.call_source.proofs.of_pair.Goals as goal
use Rattle.call_source.proofs.of_pair.Goals.{After-pair_base-base}

pub pair_base-base-requires : goal.pair_base-base-requires
unfolding port_of
pair_base-base-requires c =
    let p = c.requires in (
      numbering-fits p.0 c.numbering.ensures.0 c.numbering.ensures.1 (omega (arith, p.3)),
      omega (arith, p.2),
      rw c.numbering.ensures.1 (omega (arith, p.1)),
    )

-- the base is the pair's
is_base : (c : After-pair_base-base) →
    c.pair_base-base.result ≡ pair_base (alone c.args.net) (port_of c.args.port) c.args.j c.args.i
unfolding base pair_base base_of pair_base_of port_of
is_base c = rw (c.numbering.ensures.0, c.numbering.ensures.1) at c.pair_base-base.ensures

pub overflow_add-net : goal.overflow_add-net
unfolding net_of
overflow_add-net c =
    let p = c.requires in
    omega (arith, p.0.m-most, p.5)

pub in_pair-requires : goal.in_pair-requires
unfolding net_of
in_pair-requires c =
    let p = c.requires in
    (rw (is_base (goal.at.in_pair-requires c).After-pair_base-base) (pair-has-number _ _ p.0 p.1 _ _ _ p.2 p.3 (omega (arith, p.5))), omega (arith, p.4))

pub returns : goal.returns
unfolding net_of
returns c =
    record { literal = c.in_pair.ensures.literal ∙ behind-bits (alone c.args.net) (port_of c.args.port) c.args.j c.args.i _ c.args.offset (is_base (goal.at.returns c).After-pair_base-base); number = c.in_pair.ensures.number }
