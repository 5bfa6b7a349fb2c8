-- `group_pair::put_forwarded` meets its contract. The loop has written the bits passed.

use native.Mathlib.Omega.{arith}
use Rattle.netlist.specs.NetOf.{code_of, net_of}
use Rattle.clause_variables.specs.PortOf.{port_of}
use Rattle.clause_variables.proofs.Room.{wire-has-number, code-has-number}
use Rattle.clause_writer.proofs.Turns.{turns-start, turns-room, turns_next, turns-end}
use Rattle.group_pair.proofs.OfPair.{forwarded-bits}
use Rattle.group_pair.proofs.put_forwarded.Goals as goal

pub loop-t-init : goal.loop-t-init
loop-t-init c = turns-start _ _ _ _ c.requires.1

pub put_forwarded_bit-at-requires : goal.put_forwarded_bit-at-requires
unfolding code_of net_of port_of
put_forwarded_bit-at-requires c =
    let is = c.requires.0 in
    let t = c.loop-t.t in
    let h = c.loop-t-test.true in (
      c.selected-selected.ensures.number,
      rw c.frame_base-reading.ensures (wire-has-number _ is.fits.limits.sizes _ _ (omega arith) (omega arith)),
      omega arith,
      rw c.frame_base-writing.ensures (code-has-number _ is.fits.limits.sizes _ _ (omega arith) (is.fits.limits.codes.data-fits t h)),
      turns-room c.loop-t.invariant h,
    )

pub loop-t-preserved : goal.loop-t-preserved
unfolding code_of net_of port_of
loop-t-preserved c =
    turns_next c.loop-t.invariant c.loop-t-test.true (rw c.offset.ensures at c.put_forwarded_bit-at.ensures)

pub returns : goal.returns
returns c =
    rw (forwarded-bits c.args.net c.args.port c.args.j c.args.i _ c.selected-selected.ensures.literal c.frame_base-reading.ensures c.frame_base-writing.ensures c.first_read_wire-first.ensures) (turns-end c.loop-t.invariant (omega arith))
