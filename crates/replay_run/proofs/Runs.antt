-- Laws of specs/Runs.antt: what a frame shows and writes by its table, and what a run has left frame by frame. No contract cites this file.
use Prim.Native.Nat.{ℕ, suc, ◌+◌, ◌^◌, ◌≤◌, ◌<◌}
use mathlib.Core.Path.{◌≡◌, refl, sym, ◌∙◌, ap}
use mathlib.Core.Bool.{Bool, true, false, ◌||◌}
use mathlib.Core.List.{List}
use mathlib.Core.Logic.{by_cases}
use native.Mathlib.Decide.{ℕ_discrete}
use native.Mathlib.Omega.{arith}
use lib.Dec.{eqb}
use lib.ListN.{length}
use borrow.Author.Tests.{eq-eqb, ne_eqb}
use Rattle.model.specs.Bits.{bit}
use Rattle.model.specs.Search.{any_below, first_where, IsFirst}
use Rattle.model.specs.Wrote.{over, Wrote}
use Rattle.model.specs.Netlist.{Netlist, ports, port, read_bits, input_wire, last_wire}
use Rattle.model.specs.Variables.{base}
use Rattle.model.specs.Acceptance.{WithinLimits}
use Rattle.model.specs.Claim.{idle_of}
use Rattle.model.proofs.Search.{first_where-is, first-unique}
use Rattle.call_lists.specs.Delivered.{delivered}
use Rattle.call_lists.proofs.Delivered.{length-delivered, delivered-at}
use Rattle.netlist.specs.WireTable.{entry, HasBelow}
use Rattle.circuit_step.specs.Held.{HoldsState}
use Rattle.circuit_step.proofs.Held.{code_in}
use Rattle.circuit_step.proofs.Touched.{any_same}
use Rattle.replay_frame.specs.Replay.{Said, begun_from, fills, replayed, fed_unclear, feed_fault, violates, frame_line}
use Rattle.replay_frame.specs.Frames.{FrameJudged}
use Rattle.replay_frame.specs.declared.FrameVerdict.{FrameVerdict}
use Rattle.replay_frame.proofs.Replay.{length-line, line_same}
use Rattle.replay_run.specs.Runs.{next_first, Shown}

-- one place more
pub first_next : (f : ℕ → Bool) (i : ℕ) → next_first (first_where f i) i (f i) ≡ first_where f (i + 1)
unfolding next_first
first_next f i = first-unique (looked (f i) refl) (first_where-is f (i + 1))
  where
    before : IsFirst f i (first_where f i)
    before = first_where-is f i

    looked : (b : Bool) → f i ≡ b → IsFirst f (i + 1) (next_first (first_where f i) i b)
    looked true e =
        record {
          within = omega (arith, before.within);
          none_before = before.none_before;
          holds-there = λ h.
              by_cases (ℕ_discrete (first_where f i) i) (λ q. rw q e) (λ q. before.holds-there (omega (arith, before.within)));
        }
    looked false e =
        by_cases (ℕ_discrete (first_where f i) i)
        (λ q. rw (eq-eqb (first_where f i) i q)
        (record {
          within = omega arith;
          none_before = λ x h. by_cases (ℕ_discrete x i) (λ at. rw at e) (λ at. before.none_before x (omega arith));
          holds-there = λ h. absurd (omega arith);
        }))
        (λ q. rw (ne_eqb (first_where f i) i q)
        (record { within = omega (arith, before.within); none_before = before.none_before; holds-there = λ h. before.holds-there (omega (arith, before.within)) }))

-- by the table of frame i's values
module _ {c : Netlist} (limits : WithinLimits c) (y : Said) (i : ℕ) {table : List Bool} (q : HasBelow (last_wire c + 1) (replayed c y i) table) where
  -- what it shows
  pub shown_by : {filled : Bool} {r : FrameVerdict} → filled ≡ fills c y i → FrameJudged c y.unclear i filled (entry table) r → Shown c y i r
  unfolding feed_fault fed_unclear violates
  shown_by f j =
      record {
        fault-is = j.fault-is ∙ ap (λ reads. any_below c.inputs (λ x. y.unclear (base c i + input_wire c x)) || reads)
            (any_same (ports c) (λ x h. rw (code_in c q (port c (suc x)).RE (limits.codes.RE-fits (suc x) (omega arith, h)), f)));
        broken-is = j.broken-is ∙ rw (code_in c q c.P limits.codes.P-fits);
      }

  -- its line
  pub line-by : {old new : List ℕ} {r : ℕ} → Wrote (frame_line c (entry table)) old new r → Wrote (frame_line c (replayed c y i)) old new (last_wire c + 1)
  line-by {old} w =
      record {
        counted = sym (length-line c (replayed c y i));
        leaves = w.leaves ∙ ap (λ xs. over xs old) (line_same c q.has);
      }

-- the initial state is held: every word the same, every latch at its reset, and the idle word
pub initial-held : (c : Netlist) (latches : List Bool) (old : List ℕ) → 2 ^ c.m ≤ length old → length latches ≡ 600
    → ((l : ℕ) → l < c.latches → entry latches l ≡ eqb (c.reset l) 1)
    → (y : Said) {word : ℕ} → ((t : ℕ) → t < read_bits c → bit word t ≡ idle_of c y.value t)
    → (first : ℕ) → HoldsState c (begun_from c y (λ _. first)) latches (delivered (2 ^ c.m) (λ _. first) old) word
unfolding begun_from
initial-held c latches old h size each y said first =
    record {
      latch-size = size;
      latch-held = each;
      memory-size = omega (arith, length-delivered (λ _. first) old (2 ^ c.m) h);
      memory-held = delivered-at (λ _. first) (2 ^ c.m) old h;
      word_held = said;
    }
