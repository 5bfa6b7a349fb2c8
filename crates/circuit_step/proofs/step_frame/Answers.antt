-- `circuit_step::step_frame` meets its contract: the frame's values, and from them the write and the latches.

use Prim.Native.Nat.{ℕ, ◌+◌}
use mathlib.Core.Bool.{Bool}
use mathlib.Core.List.{[]}
use native.Mathlib.Omega.{arith}
use Rattle.model.specs.Netlist.{last_wire}
use Rattle.model.specs.Circuit.{State, address_of, word_written, frame}
use Rattle.netlist.specs.NetOf.{net_of}
use Rattle.netlist.proofs.NetOf.{limits-without-latches, limits-without-gates, limits-alone}
use Rattle.netlist.specs.WireTable.{HasBelow}
use Rattle.circuit_step.specs.Held.{HoldsState, Fed, memory_after}
use Rattle.circuit_step.proofs.Held.{below-same, step-holds, behind-memory_after, holds-lists, fed-lists, frame-lists}
use Rattle.circuit_step.proofs.step_frame.Goals as goal

pub put_frame-words-requires : goal.put_frame-words-requires
unfolding net_of
put_frame-words-requires c =
    (limits-without-latches c.args.net c.args.latches.now c.args.gates.now c.requires.limits, c.requires.values-size, c.requires.memory-size)

pub write_memory-requires : goal.write_memory-requires
unfolding net_of
write_memory-requires c =
    (limits-alone c.args.net c.args.latches.now c.args.gates.now c.requires.limits, c.requires.memory-size)

pub put_latches-requires : goal.put_latches-requires
put_latches-requires c =
    (limits-without-gates c.args.net c.args.latches.now c.args.gates.now c.requires.limits, c.requires.latch-size)

pub returns : goal.returns
unfolding net_of memory_after address_of word_written
returns c =
    let d = net_of c.args.net c.args.latches.now c.args.gates.now in
    let table : (s : State) (f : ℕ → Bool) → HoldsState d s c.args.state.now c.args.memory.now c.args.held → Fed d f c.args.inputs.now → HasBelow (last_wire d + 1) (frame d s f) (_)
    = λ s f held fed. below-same (c.put_frame-words.ensures.values s f (holds-lists c.args.net c.args.latches.now c.args.gates.now [] [] held) (fed-lists c.args.net c.args.latches.now c.args.gates.now [] [] fed))
    (λ w h. frame-lists c.args.net c.args.latches.now c.args.gates.now c.requires.limits s f w (omega arith)) in
    rw c.write_memory.ensures
    (record {
      frame-values = table;
      next-held = λ s f held fed. step-holds c.requires.limits (table s f held fed) held c.put_latches.ensures.0 c.put_latches.ensures.1 c.put_frame-words.ensures.words;
      behind = behind-memory_after d _ c.args.memory.now;
    })
