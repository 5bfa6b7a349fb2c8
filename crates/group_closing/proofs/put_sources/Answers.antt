-- `group_closing::put_sources` meets its contract. The loop has written S of the frames passed.

use Prim.Native.Nat.{◌+◌}
use native.Mathlib.Omega.{arith}
use Rattle.netlist.specs.NetOf.{net_of, alone}
use Rattle.clause_variables.specs.PortOf.{port_of}
use Rattle.clause_variables.proofs.Room.{pair-has-number}
use Rattle.clause_writer.proofs.Turns.{turns-start, turns_next, turns-end}
use Rattle.group_closing.proofs.OfClosing.{source-base, sources}
use Rattle.group_closing.proofs.put_sources.Goals as goal

pub loop-j-init : goal.loop-j-init
loop-j-init c = turns-start _ _ _ _ (omega arith)

pub overflow_add-q : goal.overflow_add-q
unfolding net_of
overflow_add-q c =
    let is = c.requires.0 in
    let e = source-base (alone c.args.net) (port_of c.args.port) c.args.i c.pair_base-q.ensures c.numbering-numbering.ensures.1 c.loop-j.j in
    let number = pair-has-number (alone c.args.net) (port_of c.args.port) is.fits c.loop-j.j c.args.i (c.args.net.m + 4) c.loop-j-test.true is.depth (omega arith) in
    omega arith

pub in_pair-selected-requires : goal.in_pair-selected-requires
unfolding net_of
in_pair-selected-requires c =
    let is = c.requires.0 in
    let e = source-base (alone c.args.net) (port_of c.args.port) c.args.i c.pair_base-q.ensures c.numbering-numbering.ensures.1 c.loop-j.j in
    let number = pair-has-number (alone c.args.net) (port_of c.args.port) is.fits c.loop-j.j c.args.i (c.args.net.m + 4) c.loop-j-test.true is.depth (omega arith) in
    (rw e number, omega arith)

pub loop-j-preserved : goal.loop-j-preserved
loop-j-preserved c =
    turns_next c.loop-j.invariant c.loop-j-test.true (rw c.in_pair-selected.ensures.literal at c.put_literal-at.ensures)

pub returns : goal.returns
unfolding net_of
returns c =
    let all = turns-end c.loop-j.invariant (omega arith) in
    (rw (sources c.args.net c.args.port c.args.i c.args.i c.pair_base-q.ensures c.numbering-numbering.ensures.1) all.0, omega arith)
