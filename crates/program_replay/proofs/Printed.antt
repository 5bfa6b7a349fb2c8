-- Laws of specs/Printed.antt: the first line and the front of the trace are all that is printed. Cited by `write_replay` and by the functions of
-- `replay` that print.
use Prim.Native.Nat.{ℕ, ◌+◌, ◌≤◌}
use mathlib.Core.Path.{◌≡◌, refl, ◌∙◌, ap}
use mathlib.Core.Bool.{cond}
use mathlib.Core.List.{List, [], ◌++◌}
use native.Mathlib.Omega.{arith}
use lib.ListN.{length, take, drop}
use lib.Seq.{take-append_seam}
use borrow.Author.Tests.{ne_eqb}
use Rattle.std.specs.Prelude.{Ok, Err}
use Rattle.model.specs.Netlist.{Netlist}
use Rattle.model.specs.Acceptance.{Accepted}
use Rattle.model.specs.Wrote.{over}
use Rattle.refusals.specs.Refusal.{refusal_number}
use Rattle.refusals.proofs.Table.{refusal_number-some}
use Rattle.netlist.specs.NetOf.{net_of}
use Rattle.dimacs.specs.Text.{refusal_text}
use Rattle.answer_lines.specs.Answer.{answer_in, answer_kind}
use Rattle.replay_frame.specs.Replay.{Said, trace_text, trace_length}
use Rattle.replay_run.proofs.Through.{length-lines}
use Rattle.replay_call.specs.ReplayCall.{ReplayAnswer, unless_refused, outcome, replay_answer, replay_reply, replay_sent, trace_after, replay_trace}
use Rattle.replay_call.specs.declared.Replayed.TheVariants.{Broken, ClaimedUnsatisfiable}
use Rattle.replay_call.specs.declared.ReplayReply.{ReplayReply}
use Rattle.replay_answer.specs.ReplayAnswer.{said_of, replay_for, trace_for}
use Rattle.program_input.specs.Input.{input_answer, InputTaken}
use Rattle.program_input.proofs.Replies.{taken-text, refused-text}
use Rattle.program_input.specs.declared.Input.{Input}
use Rattle.program_replay.specs.Printed.{is_broken, answer_text, answer_then, replayed_text, replay_text}
use Rattle.program_replay.proofs.Room.{room-suffices}

-- the lines of all frames stand in front of the trace
lines-front : (c : Netlist) (y : Said) (k : ℕ) (old : List ℕ) → take (trace_length c k) (over (trace_text c y k) old) ≡ trace_text c y k
unfolding trace_text
lines-front c y k old = rw (← length-lines c y (k + 1)) (take-append_seam (trace_text c y k) (drop (length (trace_text c y k)) old))

-- so many bytes of the trace, by what is answered
front : (c : Netlist) (y : Said) (k : ℕ) (old : List ℕ) (a : ReplayAnswer)
    → take (cond (is_broken (replay_reply a)) (trace_length c k) 0) (trace_after a (trace_text c y k) old) ≡ cond (is_broken (replay_reply a)) (trace_text c y k) []
unfolding is_broken replay_reply trace_after
front c y k old (Ok (Broken i)) = lines-front c y k old
front c y k old (Ok ClaimedUnsatisfiable) = refl
front c y k old (Err e) = rw (ne_eqb (refusal_number e.0) 0 (λ h. omega (arith, refusal_number-some e.0)))

-- the first line, and so much of the trace
pub replayed-text : (c : Netlist) (k : ℕ) (t old : List ℕ) (reply : ReplayReply) (trace : List ℕ) (bytes : ℕ) → Accepted c → k ≤ 255
    → length old ≡ 153856 → reply ≡ replay_for c 600 600 k t 4096 153856 → trace ≡ trace_for c 600 600 k t 4096 old
    → bytes ≡ cond (is_broken reply) (trace_length c k) 0 → answer_text reply ++ take bytes trace ≡ replayed_text c k t
unfolding replayed_text answer_then replay_for trace_for replay_sent replay_trace replay_answer unless_refused
replayed-text c k t old reply trace bytes accepted d long replies leaves counted =
    let y = said_of (answer_in t) in
    let a = outcome c k (answer_kind (answer_in t)) y in
    let passed = room-suffices c accepted k d in
    let reply-is : reply ≡ replay_reply a = replies ∙ rw passed in
    let trace-is : trace ≡ trace_after a (trace_text c y k) old = leaves ∙ rw (long, passed) in
    rw (counted, trace-is, reply-is, passed) (ap (λ (x : List ℕ). answer_text (replay_reply a) ++ x) (front c y k old a))

-- an input that is taken, and one that is refused
pub taken-replay : {s : List ℕ} {r : Input} {latches gates : List ℕ} (t : List ℕ) → InputTaken s r latches gates
    → replay_text s t ≡ replayed_text (net_of r.net latches gates) r.depth t
unfolding replay_text
taken-replay t taken = taken-text (λ c k. replayed_text c k t) taken

pub refused-replay : (s : List ℕ) (r : Input) (t : List ℕ) → r ≡ input_answer s → (r.number ≡ 0 → ⊥) → replay_text s t ≡ refusal_text r.number r.place
unfolding replay_text
refused-replay s r t e h = refused-text (λ c k. replayed_text c k t) s r e h
