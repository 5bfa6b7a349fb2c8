-- The sequential circuit with its whole memory, and its runs through time frames (RULES C2 to C4, C6, C7, C9, C12, C15 to C24 and C28). Cited by
-- the claim, and for dependence on a read bit by the tests of records.
use Rattle.std.specs.Prelude.{ℕ, zero, suc, ◌-◌, ◌/◌, ◌%◌, ◌^◌, ◌<◌, ◌≡◌, Bool, false, cond, not, ◌&&◌, ◌||◌, eqb, leb, ltb}
use Rattle.model.specs.Bits.{odd, bit, from_bits}
use Rattle.model.specs.Netlist.{Netlist, Start, given, unknown, start, Port, port, read_bits, input_wire, latch_wire, read_wire, gate_wire}

-- a value for each wire, in one frame
abbrev pub Values : Type 0
Values = ℕ → Bool

-- the value of a code: its wire's, inverted where the code is odd (RULES W3)
unfoldable pub code_value : Values → ℕ → Bool
code_value v x = cond (odd x) (not (v (x / 2))) (v (x / 2))

-- all wires but the gates: inputs, latches and read bits as given
unfoldable pub sources : Netlist → (ℕ → Bool) → (ℕ → Bool) → (ℕ → Bool) → Values
sources c input latch read w =
    cond (ltb w (input_wire c 0)) false
    (cond (ltb w (latch_wire c 0)) (input (w - input_wire c 0))
    (cond (ltb w (read_wire c 0)) (latch (w - latch_wire c 0))
    (cond (ltb w (gate_wire c 0)) (read (w - read_wire c 0)) false)))

-- the first g gates in wire order, each from what its two codes are by then
unfoldable pub sweep : (Values → ℕ → ℕ → Bool) → Netlist → Values → ℕ → Values
sweep op c v zero w = v w
sweep op c v (suc g) w =
    cond (eqb w (gate_wire c g)) (op (sweep op c v g) (c.left g) (c.right g)) (sweep op c v g w)

unfoldable pub conjunction : Values → ℕ → ℕ → Bool
conjunction v a b = code_value v a && code_value v b

-- all wires: the gates worked out in wire order (RULES W2)
unfoldable pub evaluate : Netlist → (ℕ → Bool) → (ℕ → Bool) → (ℕ → Bool) → Values
evaluate c input latch read = sweep conjunction c (sources c input latch read) c.gates

-- Whether a wire depends on a read bit: by wiring through gates, whatever the gates compute, and not through latches.
-- The same sweep over the gates, from the read bits. RULES C9.
unfoldable pub is_read : Netlist → ℕ → Bool
is_read c w = leb (read_wire c 0) w && ltb w (gate_wire c 0)

unfoldable pub either_wire : (ℕ → Bool) → ℕ → ℕ → Bool
either_wire d a b = d (a / 2) || d (b / 2)

unfoldable pub depends_on_read : Netlist → ℕ → Bool
depends_on_read c = sweep either_wire c (is_read c) c.gates

-- the same dependence as a path: from a read bit through gates to the wire (RULES C9)
pub data ReadPath (c : Netlist) : ℕ → Type 0 where
  at_read : (t : ℕ) → t < read_bits c → ReadPath c (read_wire c t)
  by_left : (g : ℕ) → g < c.gates → ReadPath c (c.left g / 2) → ReadPath c (gate_wire c g)
  by_right : (g : ℕ) → g < c.gates → ReadPath c (c.right g / 2) → ReadPath c (gate_wire c g)

-- what a run carries from frame to frame: the latches, the 2^m words, and the read bits of the frame before (RULES C20)
pub record State : Type 0 where
  pub latch : ℕ → Bool
  pub memory : ℕ → ℕ
  pub held : ℕ → Bool

-- what a run is fed: in each frame a value for each input (RULES C19). The customer's "idle word", frame 0's alone, is `held` of the state
-- that it begins in
abbrev pub Feeds : Type 0
Feeds = ℕ → ℕ → Bool

-- the address at a port (RULES W18), and that of the write: the first port's (RULES C28)
unfoldable pub address_of : Netlist → Port → Values → ℕ
address_of c p v = from_bits c.m (λ t. code_value v (p.address t))

abbrev pub write_address : Netlist → Values → ℕ
write_address c v = address_of c (port c 1) v

-- The read bits that follow from the state before this frame's write, and from the addresses and REs in the values v: each is of a port, n
-- to a port (RULES C4, C17, C18, C28 and W21).
unfoldable pub read_data : Netlist → State → Values → ℕ → Bool
read_data c s v r =
    let p = port c (suc (r / c.n)) in
    cond (code_value v p.RE) (bit (s.memory (address_of c p v)) (r % c.n)) (s.held r)

-- One frame. First pass: every read bit 0, which settles addresses and REs. Second pass: all gates afresh, with the read bits. RULES C12 and C21.
unfoldable pub first_pass : Netlist → State → (ℕ → Bool) → Values
first_pass c s input = evaluate c input s.latch (λ t. false)

unfoldable pub frame : Netlist → State → (ℕ → Bool) → Values
frame c s input = evaluate c input s.latch (read_data c s (first_pass c s input))

-- the word written in a frame
unfoldable pub word_written : Netlist → Values → ℕ
word_written c v = from_bits c.n (λ t. code_value v (c.write_data t))

-- after a frame: the write, all latches at once, and the read bits to be held, all from this frame's values (RULES C7 and C22)
unfoldable pub step : Netlist → State → Values → State
step c s v =
    record {
      latch = λ l. code_value v (c.next l);
      memory = λ x. cond (code_value v c.WE && eqb x (write_address c v)) (word_written c v) (s.memory x);
      held = λ t. v (read_wire c t);
    }

-- the state in which frame i begins, and the values in frame i, of the run from state s (RULES C15)
unfoldable pub state_at : Netlist → State → Feeds → ℕ → State
state_at c s f zero = s
state_at c s f (suc i) = step c (state_at c s f i) (frame c (state_at c s f i) (f i))

unfoldable pub run : Netlist → State → Feeds → ℕ → Values
run c s f i = frame c (state_at c s f i) (f i)

-- a memory that a run may begin with: each word the initial word; or, where that is unknown, any word of n bits, each by itself (RULES C23
-- and C24). It is said of every number x: the circuit asks for none from 2^m on
unfoldable pub Begins : ℕ → Start → (ℕ → ℕ) → Type 0
Begins n (given word) memory = (x : ℕ) → memory x ≡ word
Begins n unknown memory = (x : ℕ) → memory x < 2 ^ n

-- a state that a run may begin in: each latch at its reset, such a memory, and any word held (RULES C2, C18 and C20)
pub record Starts (c : Netlist) (s : State) : Type 0 where
  pub at-reset : (l : ℕ) → l < c.latches → s.latch l ≡ eqb (c.reset l) 1
  pub begins : Begins c.n (start c) s.memory
