-- A netlist with one memory: the record with its lists (RULES W14 to W17 and W19 to W22), and the numbers of its wires (RULES W1).
-- Cited by nearly every other file.
use Rattle.std.specs.Prelude.{ℕ, zero, suc, ◌+◌, ◌-◌, ◌*◌, ◌≤◌, Bool, true, false, cond, eqb}

-- What the lists hold are functions, so that an entry past its size has no meaning to ignore: it is never asked for.
-- A code (the customer's term, RULES W3) is an AIGER literal: 2 × wire, plus 1 for the inverted wire; code 0 is false, code 1 true.
pub record Netlist : Type 0 where
  pub inputs : ℕ
  pub latches : ℕ
  pub gates : ℕ
  -- address width and data width
  pub m : ℕ
  pub n : ℕ
  -- the customer's "start word", and whether there is none: 0, or 1 where the memory powers up unknown. `start` says what they mean
  pub initial_word : ℕ
  pub unknown_start : ℕ
  -- how many read ports there are beside the first: 0, or 1 where there is a second
  pub second_port : ℕ
  -- a latch's next code, and its reset, 0 or 1
  pub next : ℕ → ℕ
  pub reset : ℕ → ℕ
  -- a gate's two codes
  pub left : ℕ → ℕ
  pub right : ℕ → ℕ
  -- address codes and write-data codes, bit 0 first
  pub address : ℕ → ℕ
  pub write_data : ℕ → ℕ
  -- write enable, read enable, property
  pub WE : ℕ
  pub RE : ℕ
  pub P : ℕ
  -- address codes and read enable of a second port
  pub address2 : ℕ → ℕ
  pub RE2 : ℕ

-- what the memory is at first: each word the word given, or anything, each word by itself (RULES C23 and C24)
pub data Start : Type 0 where
  given : ℕ → Start
  unknown : Start

-- whether it is unknown
unfoldable pub is_unknown : Start → Bool
is_unknown (given word) = false
is_unknown unknown = true

-- by the two numbers of a record (RULES W19 and W20)
unfoldable pub start_of : ℕ → ℕ → Start
start_of word zero = given word
start_of word (suc u) = unknown

abbrev pub start : Netlist → Start
start c = start_of c.initial_word c.unknown_start

-- A read port of the memory. Only `ports` and `port` below say which there are.
pub record Port : Type 0 where
  pub address : ℕ → ℕ
  pub RE : ℕ
  -- its first read bit, counted from the first of all read bits
  pub first_read : ℕ
  -- its first variable, counted from the first of all ports' variables for a pair of frames
  pub first_variable : ℕ

-- how many there are, numbered from 1 (RULES G37)
abbrev pub ports : Netlist → ℕ
ports c = suc c.second_port

abbrev pub IsPort : Netlist → ℕ → Type 0
IsPort c p = (1 ≤ p) × (p ≤ ports c)

abbrev pub port : Netlist → ℕ → Port
port c p =
    record {
      address = cond (eqb p 1) c.address c.address2;
      RE = cond (eqb p 1) c.RE c.RE2;
      first_read = (p - 1) * c.n;
      first_variable = (p - 1) * (c.m + 4);
    }

-- how many read bits there are, over all ports: the first port's come first (RULES W21)
abbrev pub read_bits : Netlist → ℕ
read_bits c = ports c * c.n

-- Wires are numbered from 1: inputs, latches, read bits, gates (RULES W1). Wire 0 is no wire of the rules: it is constantly false, so
-- that codes 0 and 1 need no case of their own.
abbrev pub input_wire : Netlist → ℕ → ℕ
input_wire c x = 1 + x

abbrev pub latch_wire : Netlist → ℕ → ℕ
latch_wire c l = 1 + c.inputs + l

abbrev pub read_wire : Netlist → ℕ → ℕ
read_wire c t = 1 + c.inputs + c.latches + t

abbrev pub gate_wire : Netlist → ℕ → ℕ
gate_wire c g = 1 + c.inputs + c.latches + read_bits c + g

-- V, the number of the last wire
abbrev pub last_wire : Netlist → ℕ
last_wire c = c.inputs + c.latches + read_bits c + c.gates
