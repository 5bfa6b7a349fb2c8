-- `clause_variables::none_since` meets its contract.

use mathlib.Core.Path.{◌∙◌}
use native.Mathlib.Omega.{arith}
use borrow.Author.Rules.{rules}
use Rattle.model.proofs.Variables.{none_since-last, none_since-earlier}
use Rattle.netlist.specs.NetOf.{net_of, alone}
use Rattle.clause_variables.specs.PortOf.{port_of}
use Rattle.clause_variables.proofs.Room.{code-has-number, pair-has-number, behind-bits}
use Rattle.clause_variables.proofs.none_since.Goals as goal

pub frame_base-requires : goal.frame_base-requires
frame_base-requires c = let p = c.requires in (p.0.limits.sizes, omega arith)

pub in_frame-requires : goal.in_frame-requires
unfolding port_of
in_frame-requires c =
    let fits = c.requires.0 in
    rw c.frame_base.ensures (code-has-number _ fits.limits.sizes _ _ (omega arith) fits.port-RE-fits)

pub returns-then-j-i : goal.returns-then-j-i
unfolding port_of
returns-then-j-i c =
    rw (c.if-j-i.true, none_since-last (alone c.args.net) (port_of c.args.port) c.args.i)
    (rw c.frame_base.ensures at c.in_frame.ensures)

pub pair_base-requires : goal.pair_base-requires
pair_base-requires c = c.requires

pub overflow_add-net : goal.overflow_add-net
unfolding net_of
overflow_add-net c = search rules

pub in_pair-requires : goal.in_pair-requires
unfolding net_of
in_pair-requires c =
    let fits = c.requires.0 in
    let earlier = c.if-j-i.false in
    (rw c.pair_base.ensures (pair-has-number _ _ fits _ _ _ (omega arith) (omega arith) (omega arith)), omega arith)

pub returns : goal.returns
unfolding net_of
returns c =
    let earlier = c.if-j-i.false in
    rw (none_since-earlier (alone c.args.net) (port_of c.args.port) c.args.j c.args.i (omega arith))
    (record { literal = c.in_pair.ensures.literal ∙ behind-bits (alone c.args.net) (port_of c.args.port) c.args.j c.args.i _ 3 c.pair_base.ensures; number = c.in_pair.ensures.number })
