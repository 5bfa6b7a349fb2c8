-- A replay through the frames of a depth in what is lent. Cited by the functions that run it and by `replay_call`.
use Rattle.std.specs.Prelude.{ℕ, ◌+◌, ◌^◌, ◌≤◌, ◌≡◌, Bool, cond, List, eqb, length}
use Rattle.model.specs.Limits.{most_depth}
use Rattle.model.specs.Search.{any_below}
use Rattle.model.specs.Wrote.{over}
use Rattle.model.specs.Netlist.{Netlist}
use Rattle.model.specs.Acceptance.{Accepted}
use Rattle.call_lists.specs.Delivered.{delivered}
use Rattle.replay_frame.specs.declared.FrameVerdict.{FrameVerdict}
use Rattle.replay_frame.specs.Replay.{Said, replayed_state, feed_fault, violates, first_violation, trace_text, trace_length}
use Rattle.replay_run.specs.declared.RunVerdict.{RunVerdict}

-- the first place where something holds, with place i looked at too; `first` is i where it held at no place before
unfoldable pub next_first : ℕ → ℕ → Bool → ℕ
next_first first i holds = cond holds first (cond (eqb first i) (first + 1) first)

-- what a frame shows
pub record Shown (c : Netlist) (y : Said) (i : ℕ) (r : FrameVerdict) : Type 0 where
  pub fault-is : r.fault ≡ feed_fault c y i
  pub broken-is : r.broken ≡ violates c y i

-- what a run asks
pub record RunFits (c : Netlist) (k : ℕ) (memory trace : List ℕ) : Type 0 where
  pub accepted : Accepted c
  pub depth : k ≤ most_depth
  pub memory-size : 2 ^ c.m ≤ length memory
  pub trace-size : trace_length c k ≤ length trace

-- what a run through frame k leaves: the circuit's words in the memory and the lines in the trace, everything behind untouched; and what it
-- shows
pub record RunDone (c : Netlist) (y : Said) (k : ℕ) (memory trace memory' trace' : List ℕ) (r : RunVerdict) : Type 0 where
  pub memory-is : memory' ≡ delivered (2 ^ c.m) (replayed_state c y (k + 1)).memory memory
  pub trace-is : trace' ≡ over (trace_text c y k) trace
  pub fault-is : r.fault ≡ any_below (k + 1) (feed_fault c y)
  pub first-is : r.first ≡ first_violation c y k
