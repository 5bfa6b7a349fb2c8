-- Laws of specs/ReplayCall.antt: which tests a replay passes, and what a run has shown where they pass. No contract cites this file.
use Prim.Native.Nat.{ℕ, ◌+◌, ◌*◌, ◌^◌, ◌≤◌, ◌<◌}
use mathlib.Core.Path.{◌≡◌, refl, sym, ◌∙◌}
use mathlib.Core.Bool.{true, false}
use mathlib.Core.List.{List}
use native.Mathlib.Nat.{mul-le-mul_right}
use native.Mathlib.Omega.{arith}
use lib.ListN.{length, take, drop}
use lib.Seq.{take-append_seam}
use borrow.Author.Tests.{le-ltb, lt-ltb}
use Rattle.std.specs.Prelude.{Ok, Err}
use Rattle.refusals.specs.Verdict.{Verdict, Passed, refuse}
use Rattle.model.specs.Wrote.{over, Wrote}
use Rattle.model.specs.Netlist.{Netlist}
use Rattle.refusals.specs.Tests.{◌then◌}
use Rattle.refusals.specs.Slices.{test_room}
use Rattle.refusals.specs.declared.Refusal.{Refusal}
use Rattle.refusals.specs.declared.Refusal.TheVariants.{NoRoom, NoAnswer, NoViolation}
use Rattle.refusals.proofs.Tests.{then-passes}
use Rattle.refusals.proofs.Slices.{room-enough, room-short, room-shown}
use Rattle.netlist_tests.specs.Record.{record_verdict}
use Rattle.netlist_tests.proofs.Acceptance.{passes-accepted}
use Rattle.call_unpacked.specs.Calls.{test_depth}
use Rattle.call_unpacked.proofs.Calls.{depth-passes, depth-more}
use Rattle.call_lists.specs.Delivered.{delivered}
use Rattle.call_lists.proofs.Delivered.{delivered-again}
use Rattle.replay_frame.specs.Replay.{Said, replayed_state, first_violation, trace_text, trace_length}
use Rattle.replay_run.specs.Runs.{RunFits}
use Rattle.replay_run.proofs.Through.{length-lines}
use Rattle.replay_call.specs.ReplayCall.{replay_tests, fed_fault, run_verdict, unless_refused, outcome, words_left, trace_after}
use Rattle.replay_call.specs.Table.{ReplaysValues}
use Rattle.replay_call.specs.declared.Replayed.TheVariants.{Broken}

-- the longest trace
pub trace-small : (k w : ℕ) → k ≤ 255 → w ≤ 600 → (k + 1) * (w + 1) ≤ 153856
trace-small k w d h = omega (arith, mul-le-mul_right {m = k + 1} {n = 256} (w + 1) (omega arith))

module _ (c : Netlist) (latch_count gate_count k words room : ℕ) where
  -- the tests of the record and of the depth, and behind them 9, of the memory and of the trace
  tests-asked : {v : Verdict} → v ≡ (record_verdict c latch_count gate_count then test_depth k)
      → replay_tests c latch_count gate_count k words room ≡ v then test_room (2 ^ c.m) words then test_room (trace_length c k) room
  unfolding replay_tests
  tests-asked = depth-more c latch_count gate_count k (test_room (2 ^ c.m) words then test_room (trace_length c k) room)

  -- none of the record and of the depth
  pub asked-passed : record_verdict c latch_count gate_count ≡ Passed → k ≤ 255 → Passed ≡ (record_verdict c latch_count gate_count then test_depth k)
  unfolding test_depth
  asked-passed h d = sym ((then-passes (record_verdict c latch_count gate_count) (test_depth k)).1 (h, rw (le-ltb 255 k d)))

  -- 4, 3, 5, 6 and 7
  pub tests-refused : {r : Refusal} {p : ℕ} → refuse r p ≡ (record_verdict c latch_count gate_count then test_depth k)
      → replay_tests c latch_count gate_count k words room ≡ refuse r p
  unfolding ◌then◌
  tests-refused = tests-asked

  module _ (asked : Passed ≡ (record_verdict c latch_count gate_count then test_depth k)) where
    -- 9, of the memory and of the trace
    pub tests-memory : words < 2 ^ c.m → replay_tests c latch_count gate_count k words room ≡ refuse NoRoom 0
    unfolding ◌then◌
    tests-memory l = rw (tests-asked asked, room-short (2 ^ c.m) words l)

    pub tests-trace : 2 ^ c.m ≤ words → room < trace_length c k → replay_tests c latch_count gate_count k words room ≡ refuse NoRoom 0
    unfolding ◌then◌
    tests-trace h l = rw (tests-asked asked, room-enough (2 ^ c.m) words h, room-short (trace_length c k) room l)

    -- none
    pub tests-passed : 2 ^ c.m ≤ words → trace_length c k ≤ room → replay_tests c latch_count gate_count k words room ≡ Passed
    unfolding ◌then◌
    tests-passed h l = rw (tests-asked asked, room-enough (2 ^ c.m) words h) (room-enough (trace_length c k) room l)

-- what a replay that is not refused before has shown
pub tests-shown : (c : Netlist) (latch_count gate_count k : ℕ) (memory trace : List ℕ)
    → replay_tests c latch_count gate_count k (length memory) (length trace) ≡ Passed → RunFits c k memory trace
unfolding replay_tests
tests-shown c latch_count gate_count k memory trace h =
    let a = (then-passes (record_verdict c latch_count gate_count) _).0 h in
    let b = (then-passes (test_depth k) _).0 a.1 in
    let d = (then-passes (test_room (2 ^ c.m) (length memory)) _).0 b.1 in
    record {
      accepted = ((passes-accepted c latch_count gate_count).0 a.0).0;
      depth = depth-passes k b.0;
      memory-size = room-shown (2 ^ c.m) (length memory) d.0;
      trace-size = room-shown (trace_length c k) (length trace) d.1;
    }

module _ (c : Netlist) (y : Said) (k : ℕ) (memory trace : List ℕ) where
  -- 14: zeros in the place of the run's words
  pub values-unclear : 2 ^ c.m ≤ length memory → fed_fault c y k ≡ true
      → ReplaysValues c y k memory trace (delivered (2 ^ c.m) (λ _. 0) (delivered (2 ^ c.m) (replayed_state c y (k + 1)).memory memory)) trace (Err (record { 0 = NoAnswer; 1 = 0 }))
  unfolding outcome run_verdict unless_refused ◌then◌ words_left trace_after
  values-unclear size e =
      record {
        answers = rw e;
        memory-left = rw e (delivered-again (λ _. 0) (replayed_state c y (k + 1)).memory (2 ^ c.m) memory size);
        trace-left = refl;
      }

  -- 15: the run's words
  pub values-safe : fed_fault c y k ≡ false → k < first_violation c y k
      → ReplaysValues c y k memory trace (delivered (2 ^ c.m) (replayed_state c y (k + 1)).memory memory) trace (Err (record { 0 = NoViolation; 1 = 0 }))
  unfolding outcome run_verdict unless_refused ◌then◌ words_left trace_after
  values-safe e l =
      record {
        answers = rw (e, lt-ltb k (first_violation c y k) l);
        memory-left = rw e;
        trace-left = refl;
      }

  -- neither: the run's words and lines
  pub values-broken : fed_fault c y k ≡ false → first_violation c y k ≤ k → {trace' : List ℕ} → trace' ≡ over (trace_text c y k) trace
      → ReplaysValues c y k memory trace (delivered (2 ^ c.m) (replayed_state c y (k + 1)).memory memory) trace' (Ok (Broken (first_violation c y k)))
  unfolding outcome run_verdict unless_refused ◌then◌ words_left trace_after
  values-broken e l lines =
      record {
        answers = rw (e, le-ltb k (first_violation c y k) l);
        memory-left = rw e;
        trace-left = lines;
      }

-- the lines in front of the buffer that they were written to
lines-front : (c : Netlist) (y : Said) (k : ℕ) (buffer : List ℕ) → take (trace_length c k) (over (trace_text c y k) buffer) ≡ trace_text c y k
unfolding trace_text
lines-front c y k buffer =
    rw (← length-lines c y (k + 1)) (take-append_seam (trace_text c y k) (drop (length (trace_text c y k)) buffer))

-- and behind them in the trace
pub lines-written : (c : Netlist) (y : Said) (k : ℕ) (buffer trace trace' : List ℕ) {n r : ℕ} → n ≡ trace_length c k
    → Wrote (take n (over (trace_text c y k) buffer)) trace trace' r → trace' ≡ over (trace_text c y k) trace
lines-written c y k buffer trace trace' {n} e w =
    let front : take n (over (trace_text c y k) buffer) ≡ trace_text c y k = rw e (lines-front c y k buffer) in
    w.leaves ∙ rw front
