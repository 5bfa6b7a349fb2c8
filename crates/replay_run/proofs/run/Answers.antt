-- `replay_run::run` meets its contract. The loop's invariant: what the first i frames have left (proofs/Through.antt).

use Prim.Native.Nat.{◌+◌, ◌-◌}
use mathlib.Core.Path.{◌≡◌}
use mathlib.Core.List.{[]}
use native.Mathlib.Omega.{arith}
use borrow.Rule.Slice.PartMut.{mid_len, same_len_mid}
use lib.ListN.{length}
use Rattle.model.specs.Netlist.{last_wire}
use Rattle.netlist.specs.NetOf.{net_of}
use Rattle.netlist.proofs.NetOf.{sizes-lists}
use Rattle.replay_frame.specs.Replay.{said_in}
use Rattle.replay_run.proofs.Through.{through-none, through-next, through-all, lines-room, lines-small}
use Rattle.replay_run.proofs.run.Goals as goal

pub put_initial-held-requires : goal.put_initial-held-requires
unfolding net_of
put_initial-held-requires c =
    (sizes-lists c.args.net c.args.latches.now c.args.gates.now [] [] c.requires.accepted.limits.sizes, c.no_sources-state.ensures, c.requires.memory-size)

pub wire_count-requires : goal.wire_count-requires
wire_count-requires c =
    sizes-lists c.args.net c.args.latches.now c.args.gates.now [] [] c.requires.accepted.limits.sizes

pub loop-i-init : goal.loop-i-init
loop-i-init c =
    through-none c.args.net c.args.latches.now c.args.gates.now (said_in c.args.signs.now) c.args.depth _ c.args.trace.now c.requires.accepted.limits.sizes c.no_values-values.ensures c.no_sources-inputs.ensures c.none_touched-touched.ensures c.put_initial-held.ensures.held

pub slice_bounds-run_frame-count : goal.slice_bounds-run_frame-count
unfolding net_of
slice_bounds-run_frame-count c =
    omega (arith, lines-room c.loop-i.invariant (omega arith) c.requires.trace-size)

pub slice_bounds-run_frame-start : goal.slice_bounds-run_frame-start
unfolding net_of
slice_bounds-run_frame-start c =
    omega (arith, lines-room c.loop-i.invariant (omega arith) c.requires.trace-size)

pub run_frame-ran-requires : goal.run_frame-ran-requires
unfolding net_of
run_frame-ran-requires c =
    let t = c.loop-i.invariant in (
      record {
        accepted = c.requires.accepted;
        depth = omega (arith, c.requires.depth);
        values-size = t.values-size;
        inputs-size = t.inputs-size;
        begins = t.begins;
        touched-are = t.touched-are;
      },
      rw (mid_len c.loop-i.at (length c.loop-i.trace) c.loop-i.trace (omega arith)) (omega (arith, lines-room c.loop-i.invariant (omega arith) c.requires.trace-size)),
    )

pub overflow_add-at : goal.overflow_add-at
unfolding net_of
overflow_add-at c =
    omega (arith, lines-small c.loop-i.invariant (omega arith) c.requires.depth c.requires.accepted.limits.sizes.wires-fit, c.wire_count.ensures)

pub loop-i-preserved : goal.loop-i-preserved
unfolding net_of
loop-i-preserved c =
    through-next c.loop-i.invariant (omega arith) c.run_frame-ran.ensures.done c.run_frame-ran.auto.memory c.run_frame-ran.ensures.line
    (same_len_mid c.loop-i.at (length c.loop-i.trace - c.loop-i.at) c.loop-i.trace c.run_frame-ran.new.out c.run_frame-ran.auto.out)
    c.run_frame-ran.ensures.judged c.next_first-first.ensures (omega (arith, c.wire_count.ensures))

pub returns : goal.returns
unfolding net_of
returns c =
    let all : c.loop-i.i ≡ c.args.depth + 1 = omega (arith, c.loop-i.invariant.within, c.loop-i-test.false) in
    through-all c.loop-i.invariant all c.args.memory.now c.put_initial-held.ensures.behind

pub returns-2 : goal.returns-2
unfolding net_of
returns-2 c =
    let width : c.wire_count.result + 1 ≡ last_wire (net_of c.args.net c.args.latches.now c.args.gates.now) + 1 = omega (arith, c.wire_count.ensures) in
    through-all
    (through-next c.loop-i.invariant (omega arith) c.run_frame-ran.ensures.done c.run_frame-ran.auto.memory c.run_frame-ran.ensures.line
    (same_len_mid c.loop-i.at (length c.loop-i.trace - c.loop-i.at) c.loop-i.trace c.run_frame-ran.new.out c.run_frame-ran.auto.out)
    c.run_frame-ran.ensures.judged c.next_first-first.ensures width)
    (omega arith) c.args.memory.now c.put_initial-held.ensures.behind
