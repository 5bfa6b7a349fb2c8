-- Addresses stay below 2^m and words below 2^n along a run (specs/Circuit.antt). No contract cites this file.
use Prim.Native.Nat.{ℕ, zero, suc, ◌^◌, ◌<◌}
use mathlib.Core.Bool.{Bool, true, false, cond, ◌&&◌}
use lib.Dec.{eqb}
use Rattle.model.specs.Netlist.{Netlist, Start, given, unknown, start, Port}
use Rattle.model.specs.Circuit.{Values, code_value, State, Feeds, address_of, write_address, frame, word_written, step, state_at, Begins, Starts}
use Rattle.model.specs.Acceptance.{StartFits, Accepted}
use Rattle.model.proofs.Bits.{from_bits-below}

-- every address is below 2^m
pub address_below : (c : Netlist) (p : Port) (v : Values) → address_of c p v < 2 ^ c.m
unfolding address_of
address_below c p v = from_bits-below c.m (λ t. code_value v (p.address t))

-- every word written is below 2^n
word_written-below : (c : Netlist) (v : Values) → word_written c v < 2 ^ c.n
unfolding word_written
word_written-below c v = from_bits-below c.n (λ t. code_value v (c.write_data t))

-- every word of the memory is below 2^n
abbrev WordsFit : Netlist → State → Type 0
WordsFit c s = (x : ℕ) → s.memory x < 2 ^ c.n

-- after a frame, words below 2^n are still so
step_fits : (c : Netlist) (s : State) (v : Values) → WordsFit c s → WordsFit c (step c s v)
unfolding step
step_fits c s v h x = written (code_value v c.WE && eqb x (write_address c v))
  where
    written : (b : Bool) → cond b (word_written c v) (s.memory x) < 2 ^ c.n
    written true = word_written-below c v
    written false = h x

-- where a run begins with words below 2^n, they are so in every frame
state_at-fits : (c : Netlist) (s : State) → WordsFit c s → (f : Feeds) (i : ℕ) → WordsFit c (state_at c s f i)
unfolding state_at
state_at-fits c s h f zero = h
state_at-fits c s h f (suc i) = step_fits c (state_at c s f i) (frame c (state_at c s f i) (f i)) (state_at-fits c s h f i)

-- a run begins with words below 2^n
begins-below : (n : ℕ) (s : Start) (memory : ℕ → ℕ) → StartFits n s → Begins n s memory → (x : ℕ) → memory x < 2 ^ n
unfolding StartFits Begins
begins-below n (given word) memory h b x = rw (b x) h
begins-below n unknown memory h b x = b x

-- in a run from a state that it may begin in, every word is below 2^n
pub word_below : (c : Netlist) → Accepted c → (s : State) → Starts c s → (f : Feeds) (i x : ℕ) → (state_at c s f i).memory x < 2 ^ c.n
word_below c h s b f i x = state_at-fits c s (begins-below c.n (start c) s.memory h.limits.sizes.word_fits b.begins) f i x
