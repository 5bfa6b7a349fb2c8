-- `replay_frame::step_fed` meets its contract: what is fed and filled is what the signs say, so the step is the next of the run.

use Prim.Native.Nat.{◌+◌, suc}
use mathlib.Core.Path.{◌≡◌, ◌∙◌, ap}
use mathlib.Core.List.{[]}
use native.Mathlib.Numerals.{add-one}
use native.Mathlib.Omega.{arith}
use Rattle.model.specs.Netlist.{last_wire, input_wire}
use Rattle.model.specs.Circuit.{address_of, state_at, run}
use Rattle.model.specs.Variables.{base}
use Rattle.model.specs.Claim.{feed_of}
use Rattle.model.proofs.Variables.{base-most}
use Rattle.netlist.specs.NetOf.{net_of, alone}
use Rattle.netlist.proofs.NetOf.{sizes-lists, limits-alone, limits-without-latches}
use Rattle.netlist.specs.WireTable.{HasBelow}
use Rattle.circuit_step.specs.Held.{HoldsState, Fed}
use Rattle.replay_frame.specs.Replay.{said_in, begun_from, word_said, start_words, replayed}
use Rattle.replay_frame.specs.Frames.{touched_after, WordFilled}
use Rattle.replay_frame.proofs.Filling.{filled-lists, filled_is, filled-holds, filled-behind, touched_after-is}
use Rattle.replay_frame.proofs.step_fed.Goals as goal

pub frame_base-base-requires : goal.frame_base-base-requires
frame_base-base-requires c =
    (sizes-lists c.args.net c.args.latches.now c.args.gates.now [] [] c.requires.accepted.limits.sizes, omega (arith, c.requires.depth))

pub overflow_add-base : goal.overflow_add-base
unfolding net_of
overflow_add-base c =
    let sizes = c.requires.accepted.limits.sizes in
    omega (arith, base-most (alone c.args.net) (sizes-lists c.args.net c.args.latches.now c.args.gates.now [] [] sizes) c.args.i (omega (arith, c.requires.depth)), c.frame_base-base.ensures, sizes)

pub put_values-requires : goal.put_values-requires
unfolding net_of
put_values-requires c =
    let sizes = c.requires.accepted.limits.sizes in
    (c.requires.inputs-size, omega (arith, sizes), omega (arith, base-most (alone c.args.net) (sizes-lists c.args.net c.args.latches.now c.args.gates.now [] [] sizes) c.args.i (omega (arith, c.requires.depth)), c.frame_base-base.ensures, sizes))

pub fill_word-filled-requires : goal.fill_word-filled-requires
unfolding net_of
fill_word-filled-requires c =
    (limits-without-latches c.args.net c.args.latches.now c.args.gates.now c.requires.accepted.limits, c.requires.values-size, c.requires.begins.memory-size, c.requires.touched-are.size, c.requires.depth)

pub step_frame-next-requires : goal.step_frame-next-requires
unfolding net_of
step_frame-next-requires c =
    record {
      limits = c.requires.accepted.limits;
      values-size = c.fill_word-filled.ensures.size;
      latch-size = c.requires.begins.latch-size;
      memory-size = omega (arith, c.requires.begins.memory-size, c.fill_word-filled.auto.memory);
    }

pub mark_touched-requires : goal.mark_touched-requires
mark_touched-requires c =
    (limits-alone c.args.net c.args.latches.now c.args.gates.now c.requires.accepted.limits, c.requires.touched-are.size)

pub returns : goal.returns
unfolding net_of base feed_of run state_at address_of word_said touched_after
returns c =
    let ok = c.requires.accepted in
    let d = net_of c.args.net c.args.latches.now c.args.gates.now in
    let y = said_in c.args.signs.now in
    let inputs = c.put_values.ensures in
    let stepped = c.step_frame-next.ensures in
    let fed : Fed d (feed_of d y.value c.args.i) _
    =
    record {
      input-fed = λ x h. let e : c.frame_base-base.result + 1 + x ≡ base d c.args.i + input_wire d x = omega (arith, c.frame_base-base.ensures) in inputs.1 x h ∙ ap y.value e;
    }
    in
    let filled : WordFilled d c.args.touched.now _ c.args.state.now (word_said d y c.args.i) c.args.memory.now _ _
    = filled-lists c.args.net c.args.latches.now c.args.gates.now c.fill_word-filled.ensures.filled in
    let held : HoldsState d (state_at d (begun_from d y (start_words d y (suc c.args.i))) (feed_of d y.value) c.args.i) _ _ _
    = filled-holds ok y c.args.i c.requires.begins fed c.requires.touched-are filled in
    let values : HasBelow (last_wire d + 1) (replayed d y c.args.i) _ = stepped.frame-values _ (feed_of d y.value c.args.i) held fed in record {
      done = record {
        values-are = values;
        inputs-size = inputs.0;
        next-begins = rw add-one (stepped.next-held _ (feed_of d y.value c.args.i) held fed);
        next-touched = rw c.mark_touched.ensures (touched_after-is ok y c.args.i c.requires.touched-are values);
        behind = stepped.behind ∙ filled-behind ok y c.args.i c.requires.begins fed c.requires.touched-are filled;
      };
      filled = filled_is ok y c.args.i c.requires.begins fed c.requires.touched-are filled;
    }
