-- `group_pair_address::put_unequal_bits` meets its contract. The loop has written the bits passed.

use native.Mathlib.Omega.{arith}
use Rattle.netlist.specs.NetOf.{net_of}
use Rattle.clause_variables.proofs.Room.{pair-has-number}
use Rattle.clause_writer.proofs.Turns.{turns-start, turns_next, turns-end}
use Rattle.group_pair_address.proofs.BitsOf.{unequal-bits}
use Rattle.group_pair_address.proofs.put_unequal_bits.Goals as goal

pub loop-t-init : goal.loop-t-init
loop-t-init c = turns-start _ _ _ _ (omega arith)

pub in_pair-bit_equal-requires : goal.in_pair-bit_equal-requires
unfolding net_of
in_pair-bit_equal-requires c =
    let is = c.requires.0 in
    (rw c.pair_base-q.ensures (pair-has-number _ _ is.fits _ _ _ is.earlier is.depth (omega arith)), omega arith)

pub loop-t-preserved : goal.loop-t-preserved
loop-t-preserved c =
    turns_next c.loop-t.invariant c.loop-t-test.true (rw (c.negated.ensures.literal, c.in_pair-bit_equal.ensures.literal) at c.put_literal-at.ensures)

pub returns : goal.returns
returns c =
    let all = turns-end c.loop-t.invariant (omega arith) in
    (rw (unequal-bits c.args.net c.args.port c.args.j c.args.i _ _ c.pair_base-q.ensures) all.0, omega arith)
