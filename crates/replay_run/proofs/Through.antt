-- What a run (`run`) has left before frame i: the invariant of its loop. No contract cites this file.
use Prim.Native.Nat.{ℕ, ◌+◌, ◌-◌, ◌*◌, ◌^◌, ◌≤◌, ◌<◌}
use mathlib.Core.Path.{◌≡◌, refl, ◌∙◌, ap₂}
use mathlib.Core.Bool.{Bool, false, ◌||◌}
use mathlib.Core.List.{List, []}
use native.Mathlib.Nat.{mul-le-mul_right, suc-mul}
use native.Mathlib.Numerals.{add-one}
use native.Mathlib.Omega.{arith}
use lib.Pow.{pow_mono}
use lib.ListN.{length, drop}
use borrow.Rule.Slice.PartMut.{mid_of, put_mid}
use Rattle.model.specs.Gather.{gather}
use Rattle.model.specs.Search.{any_below, first_from, first_where}
use Rattle.model.specs.Wrote.{Wrote}
use Rattle.model.specs.Netlist.{Netlist, start, last_wire}
use Rattle.model.specs.Circuit.{state_at}
use Rattle.model.specs.Agree.{given_word}
use Rattle.model.specs.Acceptance.{SizesFit}
use Rattle.model.specs.Variables.{base}
use Rattle.model.proofs.Gather.{length-gather}
use Rattle.model.proofs.Search.{any_next}
use Rattle.model.proofs.Wrote.{wrote_nothing, wrote_then}
use Rattle.model.specs.Claim.{idle_of}
use Rattle.netlist.specs.NetOf.{net_of, alone}
use Rattle.netlist.specs.declared.Netlist as Record
use Rattle.netlist.specs.WireTable.{entry}
use Rattle.circuit_step.specs.Held.{HoldsState}
use Rattle.circuit_step.specs.Touched.{touched_before}
use Rattle.replay_frame.specs.Replay.{Said, begun_from, start_words, replayed, replayed_state, feed_fault, violates, first_violation, frame_line, trace_text, trace_length}
use Rattle.replay_frame.specs.Frames.{TouchedIs, FrameDone}
use Rattle.replay_frame.specs.declared.FrameVerdict.{FrameVerdict}
use Rattle.replay_frame.proofs.Replay.{length-line}
use Rattle.replay_run.specs.Runs.{next_first, Shown, RunDone}
use Rattle.call_lists.proofs.Delivered.{delivered-by}
use Rattle.replay_run.proofs.Runs.{first_next}

-- the lines of the first i frames
abbrev lines_to : Netlist → Said → ℕ → List ℕ
lines_to c y i = gather i (λ j. frame_line c (replayed c y j))

pub length-lines : (c : Netlist) (y : Said) (i : ℕ) → length (lines_to c y i) ≡ i * (last_wire c + 1)
length-lines c y i = length-gather i (last_wire c + 1) (λ j. frame_line c (replayed c y j)) (λ j h. length-line c (replayed c y j))

pub record Through (c : Netlist) (y : Said) (k : ℕ) (old old_trace memory trace : List ℕ) (values inputs state touched : List Bool)
    (held : ℕ) (fault : Bool) (first at i : ℕ) : Type 0 where
  pub within : i ≤ k + 1
  pub values-size : length values ≡ 601
  pub inputs-size : length inputs ≡ 600
  pub begins : HoldsState c (replayed_state c y i) state memory held
  pub touched-are : TouchedIs c y i touched
  pub behind : drop (2 ^ c.m) memory ≡ drop (2 ^ c.m) old
  pub memory-length : length memory ≡ length old
  pub trace-length : length trace ≡ length old_trace
  pub lines : Wrote (lines_to c y i) old_trace trace at
  pub fault-found : fault ≡ any_below i (feed_fault c y)
  pub first_found : first ≡ first_where (violates c y) i

-- before frame 0
pub through-none : (r : Record.Netlist) (latches gates : List ℕ) (y : Said) (k : ℕ) (old trace : List ℕ) {values inputs state touched : List Bool} {word : ℕ}
    → SizesFit (net_of r latches gates) → length values ≡ 601 → length inputs ≡ 600 → (length touched ≡ 4096) × ((x : ℕ) → x < 4096 → entry touched x ≡ false)
    → HoldsState (net_of r latches []) (begun_from (net_of r latches []) y (λ _. given_word (start (alone r)))) state old word
    → Through (net_of r latches gates) y k old trace old trace values inputs state touched word false 0 0 0
unfolding net_of begun_from idle_of base state_at start_words touched_before gather any_below first_where first_from
through-none r latches gates y k old trace sizes v n (size, none) held =
    record {
      within = omega arith;
      values-size = v;
      inputs-size = n;
      begins = record { latch-size = held.latch-size; latch-held = held.latch-held; memory-size = held.memory-size; memory-held = held.memory-held; word_held = held.word_held };
      touched-are =
          record {
            size = size;
            has = λ x h. let most : 2 ^ r.m ≤ 2 ^ 12 = pow_mono {i = r.m} {j = 12} sizes.m-most in none x (omega (arith, most));
          };
      behind = refl;
      memory-length = refl;
      trace-length = refl;
      lines = wrote_nothing trace;
      fault-found = refl;
      first_found = refl;
    }

module _ {c : Netlist} {y : Said} {k : ℕ} {old old_trace memory trace : List ℕ} {values inputs state touched : List Bool} {held : ℕ} {fault : Bool} {first at i : ℕ}
    (t : Through c y k old old_trace memory trace values inputs state touched held fault first at i) where
  -- where the lines end, and that there is room for one more
  pub lines_end : at ≡ i * (last_wire c + 1)
  lines_end = t.lines.counted ∙ length-lines c y i

  pub lines-room : i ≤ k → trace_length c k ≤ length old_trace → at + (last_wire c + 1) ≤ length trace
  lines-room h fits =
      omega (arith, lines_end, suc-mul i (last_wire c + 1), mul-le-mul_right {m = i + 1} {n = k + 1} (last_wire c + 1) (omega arith), add-one i, t.trace-length)

  pub lines-small : i ≤ k → k ≤ 255 → last_wire c ≤ 600 → at + (last_wire c + 1) ≤ 153856
  lines-small h d w =
      omega (arith, lines_end, suc-mul i (last_wire c + 1), mul-le-mul_right {m = i + 1} {n = 256} (last_wire c + 1) (omega arith), add-one i)

  -- one frame on
  pub through-next : i ≤ k → {memory' part : List ℕ} {values' inputs' state' touched' : List Bool} {r : FrameVerdict} {held' first' line : ℕ}
      → FrameDone c y i memory values' inputs' state' touched' memory' held' → length memory' ≡ length memory
      → Wrote (frame_line c (replayed c y i)) (mid_of at (length trace - at) trace) part (last_wire c + 1)
      → length (put_mid at (length trace - at) trace part) ≡ length trace
      → Shown c y i r → first' ≡ next_first first i r.broken → line ≡ last_wire c + 1
      → Through c y k old old_trace memory' (put_mid at (length trace - at) trace part) values' inputs' state' touched' held' (fault || r.fault) first' (at + line) (i + 1)
  unfolding gather
  through-next h {memory'} {part} {r = r} done same line kept shown e width =
      record {
        within = omega arith;
        values-size = done.values-are.size;
        inputs-size = done.inputs-size;
        begins = done.next-begins;
        touched-are = done.next-touched;
        behind = done.behind ∙ t.behind;
        memory-length = same ∙ t.memory-length;
        trace-length = kept ∙ t.trace-length;
        lines = rw (add-one, width) (wrote_then (lines_to c y i) (frame_line c (replayed c y i)) old_trace trace part at (last_wire c + 1) t.lines line);
        fault-found = ap₂ ◌||◌ t.fault-found shown.fault-is ∙ any_next false (feed_fault c y) i;
        first_found = e ∙ ap₂ (λ x b. next_first x i b) t.first_found shown.broken-is ∙ first_next (violates c y) i;
      }

  -- behind frame k
  pub through-all : i ≡ k + 1 → (start : List ℕ) → drop (2 ^ c.m) old ≡ drop (2 ^ c.m) start
      → RunDone c y k start old_trace memory trace (record { fault = fault; first = first })
  unfolding trace_text first_violation
  through-all all start behind =
      record {
        memory-is = delivered-by (replayed_state c y (k + 1)).memory (2 ^ c.m) start memory ended.memory-size ended.memory-held (t.behind ∙ behind);
        trace-is = (rw all at t.lines).leaves;
        fault-is = t.fault-found ∙ rw all;
        first-is = t.first_found ∙ rw all;
      }
    where
      ended : HoldsState c (replayed_state c y (k + 1)) state memory held
      ended = rw all at t.begins
