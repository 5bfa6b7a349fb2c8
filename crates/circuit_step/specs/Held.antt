-- A state and a feed of the model in what is lent: the latches in a table, the memory in a slice, the words held as one number, the inputs in a
-- table (RULES C19 and C20). Cited by the functions that step a frame and by those that run through the frames.
use Rattle.std.specs.Prelude.{ℕ, ◌+◌, ◌^◌, ◌≤◌, ◌<◌, ◌≡◌, Bool, cond, List, length, get_or, set, drop}
use Rattle.model.specs.Limits.{most_wires}
use Rattle.model.specs.Bits.{bit}
use Rattle.model.specs.Netlist.{Netlist, read_bits, last_wire}
use Rattle.model.specs.Circuit.{Values, code_value, State, write_address, frame, word_written, step}
use Rattle.model.specs.Acceptance.{WithinLimits}
use Rattle.netlist.specs.WireTable.{entry, HasBelow}

-- the state that the lent latches and memory hold with the words held
abbrev pub state_in : List Bool → List ℕ → ℕ → State
state_in latches memory held = record { latch = entry latches; memory = λ x. get_or memory x 0; held = bit held }

-- they hold the state s: on its latches, its 2^m words and the bits of the words held; what is behind these is not the circuit's
pub record HoldsState (c : Netlist) (s : State) (latches : List Bool) (memory : List ℕ) (held : ℕ) : Type 0 where
  pub latch-size : length latches ≡ most_wires
  pub latch-held : (l : ℕ) → l < c.latches → entry latches l ≡ s.latch l
  pub memory-size : 2 ^ c.m ≤ length memory
  pub memory-held : (x : ℕ) → x < 2 ^ c.m → get_or memory x 0 ≡ s.memory x
  pub word_held : (t : ℕ) → t < read_bits c → bit held t ≡ s.held t

-- the lent inputs are those that f feeds
pub record Fed (c : Netlist) (f : ℕ → Bool) (inputs : List Bool) : Type 0 where
  pub input-fed : (x : ℕ) → x < c.inputs → entry inputs x ≡ f x

-- the memory after a frame with the values v (RULES C7)
unfoldable pub memory_after : Netlist → Values → List ℕ → List ℕ
memory_after c v memory = cond (code_value v c.WE) (set memory (write_address c v) (word_written c v)) memory

-- what a step asks of what it is lent
pub record StepFits (c : Netlist) (values latches : List Bool) (memory : List ℕ) : Type 0 where
  pub limits : WithinLimits c
  pub values-size : length values ≡ most_wires + 1
  pub latch-size : length latches ≡ most_wires
  pub memory-size : 2 ^ c.m ≤ length memory

-- what a step leaves there: of whatever state was held and whatever was fed, the frame's values and the next state (RULES C22 and C15). The
-- memory behind the 2^m words is as it was
pub record Stepped (c : Netlist) (inputs latches : List Bool) (memory : List ℕ) (held : ℕ)
    (values' latches' : List Bool) (memory' : List ℕ) (held' : ℕ) : Type 0 where
  pub frame-values : (s : State) (f : ℕ → Bool) → HoldsState c s latches memory held → Fed c f inputs → HasBelow (last_wire c + 1) (frame c s f) values'
  pub next-held : (s : State) (f : ℕ → Bool) → HoldsState c s latches memory held → Fed c f inputs → HoldsState c (step c s (frame c s f)) latches' memory' held'
  pub behind : drop (2 ^ c.m) memory' ≡ drop (2 ^ c.m) memory
