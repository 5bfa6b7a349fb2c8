-- `group_closing::put_initial_reads` meets its contract. The loop has written the bits passed.

use native.Mathlib.Omega.{arith}
use Rattle.netlist.specs.NetOf.{net_of}
use Rattle.clause_variables.specs.PortOf.{port_of}
use Rattle.clause_variables.proofs.Room.{wire-has-number}
use Rattle.clause_writer.proofs.Turns.{turns-start, turns-room, turns_next, turns-end}
use Rattle.group_closing.proofs.OfClosing.{initial-bits}
use Rattle.group_closing.proofs.put_initial_reads.Goals as goal

pub loop-t-init : goal.loop-t-init
loop-t-init c = turns-start _ _ _ _ c.requires.1

pub put_initial_bit-at-requires : goal.put_initial_bit-at-requires
unfolding net_of port_of
put_initial_bit-at-requires c =
    let is = c.requires.0 in
    let h = c.loop-t-test.true in (
      c.none_since-none_since.ensures.number,
      rw c.frame_base-reading.ensures (wire-has-number _ is.fits.limits.sizes _ _ is.depth (omega arith)),
      omega arith,
      omega arith,
      turns-room c.loop-t.invariant h,
    )

pub loop-t-preserved : goal.loop-t-preserved
unfolding net_of port_of
loop-t-preserved c =
    turns_next c.loop-t.invariant c.loop-t-test.true (rw c.offset.ensures at c.put_initial_bit-at.ensures)

pub returns : goal.returns
returns c =
    rw (initial-bits c.args.net c.args.port c.args.i _ c.none_since-none_since.ensures.literal c.frame_base-reading.ensures c.first_read_wire-first.ensures) (turns-end c.loop-t.invariant (omega arith))
