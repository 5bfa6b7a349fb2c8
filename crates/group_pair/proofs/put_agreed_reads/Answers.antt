-- `group_pair::put_agreed_reads` meets its contract. The loop has written the bits passed.

use native.Mathlib.Omega.{arith}
use borrow.Author.Rules.{rules}
use Rattle.netlist.specs.NetOf.{net_of}
use Rattle.clause_variables.specs.PortOf.{port_of}
use Rattle.clause_variables.proofs.Room.{wire-has-number, numbered}
use Rattle.clause_writer.proofs.Turns.{turns-start, turns-room, turns_next, turns-end}
use Rattle.group_pair.proofs.OfPair.{agreed-bits}
use Rattle.group_pair.proofs.put_agreed_reads.Goals as goal

pub in_pair-address_equal-requires : goal.in_pair-address_equal-requires
in_pair-address_equal-requires c = search (rules, numbered)

pub loop-t-init : goal.loop-t-init
loop-t-init c = turns-start _ _ _ _ c.requires.1

pub put_agreed_bit-at-requires : goal.put_agreed_bit-at-requires
unfolding net_of port_of
put_agreed_bit-at-requires c =
    let is = c.requires.0 in
    let h = c.loop-t-test.true in (
      c.in_pair-address_equal.ensures.number,
      c.none_since-earlier.ensures.number,
      c.none_since-later.ensures.number,
      rw c.frame_base-reading.ensures (wire-has-number _ is.fits.limits.sizes _ _ is.depth (omega arith)),
      rw c.frame_base-before.ensures (wire-has-number _ is.fits.limits.sizes _ _ (omega arith) (omega arith)),
      omega arith,
      turns-room c.loop-t.invariant h,
    )

pub loop-t-preserved : goal.loop-t-preserved
unfolding net_of port_of
loop-t-preserved c =
    turns_next c.loop-t.invariant c.loop-t-test.true (rw c.offset.ensures at c.put_agreed_bit-at.ensures)

pub returns : goal.returns
returns c =
    rw (agreed-bits c.args.net c.args.port c.args.j c.args.i _ c.pair_base-q.ensures c.in_pair-address_equal.ensures.literal c.none_since-earlier.ensures.literal c.none_since-later.ensures.literal c.frame_base-reading.ensures c.frame_base-before.ensures c.first_read_wire-first.ensures) (turns-end c.loop-t.invariant (omega arith))
