-- `group_latches::put_latches` meets its contract. The loop has written the latches passed.

use mathlib.Core.List.{[]}
use native.Mathlib.Omega.{arith}
use Rattle.netlist.specs.NetOf.{net_of}
use Rattle.netlist.proofs.NetOf.{sizes-lists}
use Rattle.clause_variables.proofs.Room.{wire-has-number, code-has-number}
use Rattle.clause_writer.proofs.Turns.{turns-start, turns-room, turns_next, turns-end}
use Rattle.group_latches.proofs.StateOf.{later-latches}
use Rattle.group_latches.proofs.put_latches.Goals as goal

pub loop-l-init : goal.loop-l-init
loop-l-init c = turns-start _ _ _ _ c.requires.1

pub put_latch-at-requires : goal.put_latch-at-requires
unfolding net_of
put_latch-at-requires c =
    let sizes = sizes-lists c.args.net c.args.latches.now [] [] [] c.requires.0.limits.sizes in
    let codes = c.requires.0.limits.codes in (
      rw c.frame_base-b.ensures (wire-has-number _ sizes _ _ (omega arith) (omega arith)),
      omega arith,
      rw c.frame_base-before.ensures (code-has-number _ sizes _ _ (omega arith) (codes.next_fits c.loop-l.l c.loop-l-test.true)),
      turns-room c.loop-l.invariant c.loop-l-test.true,
    )

pub loop-l-preserved : goal.loop-l-preserved
loop-l-preserved c =
    turns_next c.loop-l.invariant c.loop-l-test.true (rw c.offset.ensures at c.put_latch-at.ensures)

pub returns : goal.returns
returns c =
    rw (later-latches c.args.net c.args.latches.now c.args.i _ c.frame_base-before.ensures c.frame_base-b.ensures c.first_latch_wire-first.ensures) (turns-end c.loop-l.invariant (omega arith))
