-- `program_replay::write_replay` meets its contract: the first line, and so much of the trace behind it.

use Prim.Native.Nat.{ℕ}
use mathlib.Core.Path.{◌≡◌, sym, ◌∙◌, ap, subst}
use mathlib.Core.List.{List, [], ◌++◌}
use native.Mathlib.Omega.{arith}
use borrow.Author.Rules.{rules}
use lib.ListN.{take, length, length-append}
use lib.Seq.{length-take-le}
use Rattle.model.specs.Wrote.{Wrote}
use Rattle.netlist.specs.NetOf.{net_of}
use Rattle.netlist.proofs.NetOf.{sizes-lists}
use Rattle.group_counts.proofs.Counted.{wrote-front}
use Rattle.program_replay.specs.Printed.{replayed_text}
use Rattle.program_replay.proofs.Room.{room-suffices}
use Rattle.program_replay.proofs.Printed.{replayed-text}
use Rattle.program_replay.proofs.write_replay.Goals as goal

pub trace_bytes-bytes-requires : goal.trace_bytes-bytes-requires
trace_bytes-bytes-requires c =
    (sizes-lists c.args.net c.args.latches.now c.args.gates.now [] [] c.requires.0.limits.sizes, c.requires.1)

pub slice_bounds-write_both-end : goal.slice_bounds-write_both-end
slice_bounds-write_both-end c = sym (length-take-le _ _ (search rules))

pub slice_bounds-write_both-end-2 : goal.slice_bounds-write_both-end-2
slice_bounds-write_both-end-2 c = sym (length-take-le _ _ (search rules))

pub write_both-requires : goal.write_both-requires
write_both-requires c =
    let front : length (take c.write_answer-first.result c.write_answer-first.new.out) ≡ c.write_answer-first.result = length-take-le _ _ (search rules) in
    let behind : length (take c.trace_bytes-bytes.result c.replay_read-reply.new.trace) ≡ c.trace_bytes-bytes.result = length-take-le _ _ (search rules) in
    omega (
      arith,
      front,
      behind,
      c.write_answer-first.ensures.most,
      c.trace_bytes-bytes.ensures.most,
      c.requires.2,
    )

pub returns : goal.returns
unfolding net_of
returns c =
    let net = net_of c.args.net c.args.latches.now c.args.gates.now in
    let lines : List ℕ = c.replay_read-reply.new.trace in
    let lent = c.no_lines-trace.ensures in
    let front : length (take c.write_answer-first.result c.write_answer-first.new.out) ≡ c.write_answer-first.result = length-take-le _ _ (search rules) in
    let behind : length (take c.trace_bytes-bytes.result c.replay_read-reply.new.trace) ≡ c.trace_bytes-bytes.result = length-take-le _ _ (search rules) in
    let words = c.no_words-memory.ensures in record {
      text = λ text t.
          let printed : take c.write_answer-first.result c.write_answer-first.new.out ++ take c.trace_bytes-bytes.result lines ≡ replayed_text net c.args.depth text =
          ap (λ (x : List ℕ). x ++ take c.trace_bytes-bytes.result lines) (wrote-front c.write_answer-first.ensures.text)
          ∙ replayed-text net c.args.depth text c.no_lines-trace.result c.replay_read-reply.result lines c.trace_bytes-bytes.result
          c.requires.0 c.requires.1 lent (rw (words, lent) at (c.replay_read-reply.ensures.answer text t)) (rw words at (c.replay_read-reply.ensures.trace text t)) c.trace_bytes-bytes.ensures.bytes in
          subst (λ (x : List ℕ). Wrote x c.args.out.now c.write_both.new.out c.write_both.result) printed c.write_both.ensures;
      most =
          omega (
            arith,
            c.write_both.ensures.counted,
            length-append (take c.write_answer-first.result c.write_answer-first.new.out) (take c.trace_bytes-bytes.result lines),
            front,
            behind,
            c.write_answer-first.ensures.most,
            c.trace_bytes-bytes.ensures.most,
          );
      room = room-suffices;
    }
