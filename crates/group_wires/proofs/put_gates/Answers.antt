-- `group_wires::put_gates` meets its contract. The loop has written the gates passed.

use mathlib.Core.List.{[]}
use native.Mathlib.Omega.{arith}
use Rattle.netlist.specs.NetOf.{net_of}
use Rattle.netlist.proofs.NetOf.{sizes-lists}
use Rattle.clause_variables.proofs.Room.{wire-has-number, code-has-number}
use Rattle.clause_writer.proofs.Turns.{turns-start, turns-room, turns_next, turns-end}
use Rattle.group_wires.proofs.WiresOf.{all-gates}
use Rattle.group_wires.proofs.put_gates.Goals as goal

pub loop-g-init : goal.loop-g-init
loop-g-init c = turns-start _ _ _ _ (omega arith)

pub put_gate-at-requires : goal.put_gate-at-requires
unfolding net_of
put_gate-at-requires c =
    let sizes = sizes-lists c.args.net [] c.args.gates.now [] [] c.requires.0.limits.sizes in
    let codes = c.requires.0.limits.codes in (
      rw c.frame_base-b.ensures (wire-has-number _ sizes _ _ (omega arith) (omega arith)),
      omega arith,
      rw c.frame_base-b.ensures (code-has-number _ sizes _ _ (omega arith) (omega (arith, codes.left-fits c.loop-g.g (omega arith)))),
      rw c.frame_base-b.ensures (code-has-number _ sizes _ _ (omega arith) (omega (arith, codes.right-fits c.loop-g.g (omega arith)))),
      turns-room c.loop-g.invariant (omega arith),
    )

pub loop-g-preserved : goal.loop-g-preserved
loop-g-preserved c =
    turns_next c.loop-g.invariant (omega arith) (rw c.offset.ensures at c.put_gate-at.ensures)

pub returns : goal.returns
returns c =
    rw (all-gates c.args.net c.args.gates.now c.args.i _ c.frame_base-b.ensures c.first_gate_wire-first.ensures) (turns-end c.loop-g.invariant (omega arith))
