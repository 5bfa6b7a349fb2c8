-- A frame of a replay in what is lent. Cited by the functions that step it, here and in `replay_run`.
use Rattle.std.specs.Prelude.{ℕ, ◌+◌, ◌^◌, ◌≤◌, ◌<◌, ◌≡◌, Bool, true, cond, not, ◌&&◌, ◌||◌, List, length, set, drop}
use Rattle.model.specs.Bits.{bit}
use Rattle.model.specs.Limits.{most_wires, most_address_bits, most_depth}
use Rattle.model.specs.Netlist.{Netlist, is_unknown, start, port, last_wire}
use Rattle.model.specs.Circuit.{Values, code_value, address_of, evaluate}
use Rattle.model.specs.Acceptance.{Accepted}
use Rattle.netlist.specs.WireTable.{entry, HasBelow}
use Rattle.circuit_step.specs.Held.{HoldsState}
use Rattle.replay_frame.specs.Replay.{Said, touched_from, start_words, replayed, replayed_state, fed_unclear}
use Rattle.replay_frame.specs.declared.FrameVerdict.{FrameVerdict}

-- the table of the words that are touched, after a frame with the values v
unfoldable pub touched_after : Netlist → Values → List Bool → List Bool
touched_after c v touched = cond (code_value v c.RE || code_value v c.WE) (set touched (address_of c (port c 1) v) true) touched

-- by the first pass of a frame and the table of the words that are touched: whether the frame fills a word, and the memory then
pub record WordFilled (c : Netlist) (touched inputs latches : List Bool) (word : ℕ) (memory memory' : List ℕ) (r : Bool) : Type 0 where
  pub fills-is : r ≡ (is_unknown (start c) && (code_value (evaluate c (entry inputs) (entry latches) (bit 0)) c.RE
      && not (entry touched (address_of c (port c 1) (evaluate c (entry inputs) (entry latches) (bit 0))))))
  pub memory-is : memory' ≡ cond r (set memory (address_of c (port c 1) (evaluate c (entry inputs) (entry latches) (bit 0))) word) memory

-- the table has the words that the frames before i have touched
pub record TouchedIs (c : Netlist) (y : Said) (i : ℕ) (touched : List Bool) : Type 0 where
  pub size : length touched ≡ 2 ^ most_address_bits
  pub has : (x : ℕ) → x < 2 ^ c.m → entry touched x ≡ touched_from c y (start_words c y i) i x

-- what a frame asks: latches, memory and the words held are the state in which it begins
pub record FrameBegins (c : Netlist) (y : Said) (i : ℕ) (values inputs latches touched : List Bool) (memory : List ℕ) (held : ℕ) : Type 0 where
  pub accepted : Accepted c
  pub depth : i ≤ most_depth
  pub values-size : length values ≡ most_wires + 1
  pub inputs-size : length inputs ≡ most_wires
  pub begins : HoldsState c (replayed_state c y i) latches memory held
  pub touched-are : TouchedIs c y i touched

-- what it leaves: its values, and the state in which the next one begins; the memory behind the 2^m words as it was
pub record FrameDone (c : Netlist) (y : Said) (i : ℕ) (old : List ℕ) (values inputs latches touched : List Bool) (memory : List ℕ) (held : ℕ) : Type 0 where
  pub values-are : HasBelow (last_wire c + 1) (replayed c y i) values
  pub inputs-size : length inputs ≡ most_wires
  pub next-begins : HoldsState c (replayed_state c y (i + 1)) latches memory held
  pub next-touched : TouchedIs c y (i + 1) touched
  pub behind : drop (2 ^ c.m) memory ≡ drop (2 ^ c.m) old

-- what frame i with the values v shows, where it fills a word or not
pub record FrameJudged (c : Netlist) (unclear : ℕ → Bool) (i : ℕ) (filled : Bool) (v : Values) (r : FrameVerdict) : Type 0 where
  pub fault-is : r.fault ≡ fed_unclear c unclear i filled v
  pub broken-is : r.broken ≡ not (code_value v c.P)
