-- The faults of a line (RULES T4, T5, T6 and T17), as computed tests. Cited by the tests
-- of records and by the sheet reader.
use Rattle.std.specs.Prelude.{ℕ, ◌+◌, ◌-◌, ◌*◌, ◌/◌, ◌^◌, Bool, false, not, ◌&&◌, ◌||◌, ltb, leb, eqb}
use Rattle.model.specs.Limits.{most_wires, most_address_bits, most_data_bits}
use Rattle.model.specs.Netlist.{Netlist, Start, given, unknown, start, port, gate_wire, last_wire}
use Rattle.model.specs.Circuit.{depends_on_read}
use Rattle.model.specs.Search.{seen}
use Rattle.netlist.specs.declared.Line.{Line}
use Rattle.netlist.specs.declared.Line.TheVariants.{Sizes, Memory, Latch, Gate, Address, WriteData, SecondAddress, SecondEnable, Control}

-- a number is outside the limits low to high
abbrev pub outside : ℕ → ℕ → ℕ → Bool
outside low high x = ltb x low || ltb high x

-- RULES W20: a word that is given has n bits; where the start is unknown there is none to test
unfoldable pub start_fault : ℕ → Start → Bool
start_fault n (given word) = outside 0 (2 ^ n - 1) word
start_fault n unknown = false

-- RULES T4: "a number of the N line or the second line, or V, outside its limit"; V is tested at the second line (RULES T36)
unfoldable pub size_fault : Netlist → Line → Bool
size_fault c Sizes = outside 0 most_wires c.inputs || outside 0 most_wires c.latches || outside 0 most_wires c.gates
size_fault c Memory =
    outside 0 1 (c.unknown_start + c.second_port) || outside 1 most_address_bits c.m || outside 1 most_data_bits c.n
    || start_fault c.n (start c) || outside 0 most_wires (last_wire c)
size_fault c (Latch l) = false
size_fault c (Gate g) = false
size_fault c (Address t) = false
size_fault c (WriteData t) = false
size_fault c (SecondAddress t) = false
size_fault c SecondEnable = false
size_fault c Control = false

-- RULES W12: "A code is at most 2V + 1", V the last wire
abbrev pub above_limit : ℕ → ℕ → Bool
above_limit last x = ltb (2 * last + 1) x

-- a latch's next code (RULES W12) and its reset, 0 or 1 (RULES W15)
abbrev pub latch_fault : ℕ → ℕ → ℕ → Bool
latch_fault last next reset = above_limit last next || outside 0 1 reset

-- RULES W13: "A gate's two codes are less than 2 × its own wire"
abbrev pub gate_fault : ℕ → ℕ → ℕ → Bool
gate_fault own left right = leb (2 * own) left || leb (2 * own) right

-- RULES T5: "a code, a gate's operand or a reset outside its limit"
unfoldable pub code_fault : Netlist → Line → Bool
code_fault c Sizes = false
code_fault c Memory = false
code_fault c (Latch l) = latch_fault (last_wire c) (c.next l) (c.reset l)
code_fault c (Gate g) = gate_fault (gate_wire c g) (c.left g) (c.right g)
code_fault c (Address t) = above_limit (last_wire c) (c.address t)
code_fault c (WriteData t) = above_limit (last_wire c) (c.write_data t)
code_fault c (SecondAddress t) = above_limit (last_wire c) (c.address2 t)
code_fault c SecondEnable = above_limit (last_wire c) c.RE2
code_fault c Control = above_limit (last_wire c) c.WE || above_limit (last_wire c) c.RE || above_limit (last_wire c) c.P

-- of a port's address: the wire of code t is that of an earlier code, inverted or not, and no constant's
unfoldable pub is_tied : (ℕ → ℕ) → ℕ → Bool
is_tied address t = not (eqb (address t / 2) 0) && seen (λ s. address s / 2) t (address t / 2)

-- a fault of a line that has an address code of a port, or its RE: by the port's address and the code's number, or by RE; no other line has one
abbrev pub port_fault : ((ℕ → ℕ) → ℕ → Bool) → (ℕ → Bool) → Netlist → Line → Bool
port_fault address RE c Sizes = false
port_fault address RE c Memory = false
port_fault address RE c (Latch l) = false
port_fault address RE c (Gate g) = false
port_fault address RE c (Address t) = address (port c 1).address t
port_fault address RE c (WriteData t) = false
port_fault address RE c (SecondAddress t) = address (port c 2).address t
port_fault address RE c SecondEnable = RE (port c 2).RE
port_fault address RE c Control = RE (port c 1).RE

-- RULES T17: "an A line whose wire an earlier A line has, or a B line whose wire an earlier B line has"
unfoldable pub tie_fault : Netlist → Line → Bool
tie_fault = port_fault is_tied (λ x. false)

-- RULES T6: "an address code or RE of a port depends on a read bit", d saying which wires do
unfoldable pub loop_fault_by : (ℕ → Bool) → Netlist → Line → Bool
loop_fault_by d = port_fault (λ address t. d (address t / 2)) (λ x. d (x / 2))

abbrev pub loop_fault : Netlist → Line → Bool
loop_fault c = loop_fault_by (depends_on_read c) c
