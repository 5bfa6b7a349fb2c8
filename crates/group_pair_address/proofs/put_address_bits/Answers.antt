-- `group_pair_address::put_address_bits` meets its contract. The loop has written the bits passed.

use native.Mathlib.Omega.{arith}
use Rattle.model.proofs.Ports.{first-port}
use Rattle.netlist.specs.NetOf.{code_of, net_of, alone}
use Rattle.clause_variables.specs.PortOf.{port_of}
use Rattle.clause_variables.proofs.Room.{code-numbered, pair-has-number}
use Rattle.clause_writer.proofs.Turns.{turns-start, turns-room, turns_next, turns-end}
use Rattle.group_pair_address.proofs.BitsOf.{address-bits}
use Rattle.group_pair_address.proofs.put_address_bits.Goals as goal

pub loop-t-init : goal.loop-t-init
loop-t-init c = turns-start _ _ _ _ c.requires.1

pub put_address_bit-at-requires : goal.put_address_bit-at-requires
unfolding code_of net_of port_of
put_address_bit-at-requires c =
    let is = c.requires.0 in
    let h = c.loop-t-test.true in
    let t = c.loop-t.t in
    let first = is.fits.limits.codes.address-fits 1 (first-port (alone c.args.net)) t h in
    let own = is.fits.port-address-fits t h in (
      rw c.pair_base-q.ensures (pair-has-number _ _ is.fits _ _ _ is.earlier is.depth (omega arith)),
      search (code-numbered (alone c.args.net) c.args.j _ _ c.frame_base-writing.ensures is.fits.limits.sizes first (omega arith), code-numbered (alone c.args.net) c.args.j _ _ c.frame_base-writing.ensures is.fits.limits.sizes own (omega arith)),
      code-numbered _ _ _ _ c.frame_base-reading.ensures is.fits.limits.sizes own (omega arith),
      turns-room c.loop-t.invariant h,
    )

pub loop-t-preserved : goal.loop-t-preserved
unfolding code_of net_of port_of
loop-t-preserved c =
    turns_next c.loop-t.invariant c.loop-t-test.true c.put_address_bit-at.ensures

pub returns : goal.returns
returns c =
    rw (address-bits c.args.net c.args.port c.args.j c.args.i _ c.pair_base-q.ensures c.frame_base-writing.ensures c.frame_base-reading.ensures) (turns-end c.loop-t.invariant (omega arith))
