-- `replay_frame::put_line` meets its contract. The loop's invariant: the digits of the first w wires stand before what was there.

use Prim.Native.Nat.{◌+◌}
use mathlib.Core.Path.{◌≡◌, refl, sym, ◌∙◌, ap}
use native.Mathlib.Numerals.{add-one}
use native.Mathlib.Omega.{arith}
use lib.ListN.{length-set}
use Rattle.model.specs.Netlist.{last_wire}
use Rattle.netlist.specs.NetOf.{net_of, alone}
use Rattle.netlist.specs.WireTable.{entry}
use Rattle.call_lists.proofs.Delivered.{delivered-none, delivered-next}
use Rattle.replay_frame.specs.Replay.{digit_of}
use Rattle.replay_frame.proofs.Replay.{line-ended}
use Rattle.replay_frame.proofs.put_line.Goals as goal

pub loop-w-init : goal.loop-w-init
loop-w-init c = (refl, sym (delivered-none _ _))

pub loop-w-preserved : goal.loop-w-preserved
unfolding net_of
loop-w-preserved c =
    let e : c.loop-w.w + 1 ≡ 1 + c.loop-w.w = omega arith in (
      simp length-set c.loop-w.invariant.0,
      rw (c.loop-w.invariant.1, c.digit.ensures ∙ ap (λ x. digit_of (entry c.args.values.now x)) e, add-one)
          (delivered-next (λ x. digit_of (entry c.args.values.now (1 + x))) c.args.out.now c.loop-w.w (omega (arith, c.requires, c.wire_count-wires.ensures))),
    )

pub shape_of-out : goal.shape_of-out
shape_of-out c =
    simp length-set c.loop-w.invariant.0

pub returns : goal.returns
unfolding net_of
returns c =
    let all : c.loop-w.w ≡ last_wire (alone c.args.net) = omega (arith, c.wire_count-wires.ensures) in
    rw (c.loop-w.invariant.1, all, c.wire_count-wires.ensures) (line-ended (alone c.args.net) (entry c.args.values.now) c.args.out.now (omega (arith, c.requires.1)))
