-- `group_closing::put_held_reads` meets its contract. The loop has written the bits passed.

use mathlib.Core.Path.{◌∙◌, ap}
use native.Mathlib.Omega.{arith}
use Rattle.model.specs.Clauses.{neg}
use Rattle.netlist.specs.NetOf.{net_of}
use Rattle.clause_variables.specs.PortOf.{port_of}
use Rattle.clause_variables.proofs.Room.{wire-has-number, code-has-number}
use Rattle.clause_writer.proofs.Turns.{turns-start, turns-room, turns_next, turns-end}
use Rattle.group_closing.proofs.OfClosing.{held-bits}
use Rattle.group_closing.proofs.put_held_reads.Goals as goal

pub in_frame-requires : goal.in_frame-requires
unfolding port_of
in_frame-requires c =
    let is = c.requires.0 in
    rw c.frame_base-reading.ensures (code-has-number _ is.fits.limits.sizes _ _ is.depth is.fits.port-RE-fits)

pub loop-t-init : goal.loop-t-init
loop-t-init c = turns-start _ _ _ _ c.requires.2

pub put_held_bit-at-requires : goal.put_held_bit-at-requires
unfolding net_of port_of
put_held_bit-at-requires c =
    let is = c.requires.0 in
    let h = c.loop-t-test.true in (
      c.negated-idle.ensures.number,
      rw c.frame_base-reading.ensures (wire-has-number _ is.fits.limits.sizes _ _ is.depth (omega arith)),
      rw c.frame_base-before.ensures (wire-has-number _ is.fits.limits.sizes _ _ (omega (arith, is.depth)) (omega arith)),
      omega arith,
      turns-room c.loop-t.invariant h,
    )

pub loop-t-preserved : goal.loop-t-preserved
unfolding net_of port_of
loop-t-preserved c =
    turns_next c.loop-t.invariant c.loop-t-test.true (rw c.offset.ensures at c.put_held_bit-at.ensures)

pub returns : goal.returns
unfolding port_of
returns c =
    let idle = c.negated-idle.ensures.literal ∙ ap neg c.in_frame.ensures.literal in
    rw (held-bits c.args.net c.args.port c.args.i _ idle c.frame_base-reading.ensures c.frame_base-before.ensures c.first_read_wire-first.ensures) (turns-end c.loop-t.invariant (omega arith))
