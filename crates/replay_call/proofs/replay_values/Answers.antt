-- `replay_call::replay_values` meets its contract: a run, and the answer by what it shows.

use Prim.Native.Nat.{ℕ, ◌≤◌}
use mathlib.Core.Path.{sym, ◌∙◌}
use mathlib.Core.List.{List, []}
use native.Mathlib.Omega.{arith}
use lib.ListN.{length}
use lib.Seq.{length-take-le}
use Rattle.model.specs.Netlist.{last_wire}
use Rattle.netlist.specs.NetOf.{net_of, alone}
use Rattle.netlist.proofs.NetOf.{sizes-lists}
use Rattle.replay_frame.specs.Replay.{said_in}
use Rattle.replay_call.proofs.ReplayCall.{trace-small, values-unclear, values-safe, values-broken, lines-written}
use Rattle.replay_call.proofs.replay_values.Goals as goal

pub run-shown-requires : goal.run-shown-requires
unfolding net_of
run-shown-requires c =
    record {
      accepted = c.requires.accepted;
      depth = c.requires.depth;
      memory-size = c.requires.memory-size;
      trace-size = omega (arith, c.no_lines-lines.ensures, trace-small c.args.depth (last_wire (alone c.args.net)) c.requires.depth c.requires.accepted.limits.sizes.wires-fit);
    }

pub word_count-requires : goal.word_count-requires
word_count-requires c =
    sizes-lists c.args.net c.args.latches.now c.args.gates.now [] [] c.requires.accepted.limits.sizes

pub fill_words-requires : goal.fill_words-requires
unfolding net_of
fill_words-requires c =
    omega (arith, c.requires.memory-size, c.word_count.ensures, c.run-shown.auto.memory)

pub returns-then-shown : goal.returns-then-shown
unfolding net_of
returns-then-shown c =
    let d = net_of c.args.net c.args.latches.now c.args.gates.now in
    let y = said_in c.args.signs.now in
    let ran = c.run-shown.ensures in
    rw (c.fill_words.ensures, c.word_count.ensures, ran.memory-is)
    (values-unclear d y c.args.depth c.args.memory.now c.args.trace.now c.requires.memory-size (sym ran.fault-is ∙ c.if-shown.true))

pub returns-then-depth-first : goal.returns-then-depth-first
unfolding net_of
returns-then-depth-first c =
    let d = net_of c.args.net c.args.latches.now c.args.gates.now in
    let y = said_in c.args.signs.now in
    let ran = c.run-shown.ensures in
    rw ran.memory-is
    (values-safe d y c.args.depth c.args.memory.now c.args.trace.now (sym ran.fault-is ∙ c.if-shown.false) (omega (arith, c.if-depth-first.true, ran.first-is)))

pub trace_length-length-requires : goal.trace_length-length-requires
trace_length-length-requires c =
    (sizes-lists c.args.net c.args.latches.now c.args.gates.now [] [] c.requires.accepted.limits.sizes, c.requires.depth)

pub slice_bounds-lines-end : goal.slice_bounds-lines-end
unfolding net_of
slice_bounds-lines-end c =
    omega (arith, c.trace_length-length.ensures, trace-small c.args.depth (last_wire (alone c.args.net)) c.requires.depth c.requires.accepted.limits.sizes.wires-fit)

pub slice_bounds-write_word-end : goal.slice_bounds-write_word-end
unfolding net_of
slice_bounds-write_word-end c =
    let lines : List ℕ = c.run-shown.new.trace in
    let few : c.trace_length-length.result ≤ length lines
    = omega (arith, c.run-shown.auto.trace, c.no_lines-lines.ensures, c.trace_length-length.ensures, trace-small c.args.depth (last_wire (alone c.args.net)) c.requires.depth c.requires.accepted.limits.sizes.wires-fit)
    in
    sym (length-take-le c.trace_length-length.result lines few)

pub write_word-requires : goal.write_word-requires
unfolding net_of
write_word-requires c =
    let lines : List ℕ = c.run-shown.new.trace in
    let few : c.trace_length-length.result ≤ length lines
    = omega (arith, c.run-shown.auto.trace, c.no_lines-lines.ensures, c.trace_length-length.ensures, trace-small c.args.depth (last_wire (alone c.args.net)) c.requires.depth c.requires.accepted.limits.sizes.wires-fit)
    in
    omega (arith, length-take-le c.trace_length-length.result lines few, c.trace_length-length.ensures, c.requires.trace-size)

pub returns : goal.returns
unfolding net_of
returns c =
    let d = net_of c.args.net c.args.latches.now c.args.gates.now in
    let y = said_in c.args.signs.now in
    let ran = c.run-shown.ensures in
    rw (ran.memory-is, ran.first-is)
    (values-broken d y c.args.depth c.args.memory.now c.args.trace.now (sym ran.fault-is ∙ c.if-shown.false) (omega (arith, c.if-depth-first.false, ran.first-is))
    (lines-written d y c.args.depth _ c.args.trace.now _ c.trace_length-length.ensures (rw ran.trace-is at c.write_word.ensures)))
