-- Which netlists are accepted (RULES A1, W7 to W9, W11 to W13, W15, W19, W20, W22, C8, C27 and C29). Cited by the
-- theorem, by what writes clauses, and by the tests of records, which are proved to pass exactly these.
use Rattle.std.specs.Prelude.{ℕ, ◌+◌, ◌*◌, ◌/◌, ◌^◌, ◌≤◌, ◌<◌, ◌≡◌, true, false, ◌↔◌}
use Rattle.model.specs.Limits.{most_wires, most_address_bits, most_data_bits}
use Rattle.model.specs.Netlist.{Netlist, Start, given, unknown, start, Port, IsPort, port, gate_wire, last_wire}
use Rattle.model.specs.Circuit.{depends_on_read, ReadPath}

-- a given initial word has n bits
unfoldable pub StartFits : ℕ → Start → Type 0
StartFits n (given word) = word < 2 ^ n
StartFits n unknown = Unit {0}

-- refusal 4 (RULES T4): a size outside its limit
pub record SizesFit (c : Netlist) : Type 0 where
  pub inputs-fit : c.inputs ≤ most_wires
  pub latches-fit : c.latches ≤ most_wires
  pub gates-fit : c.gates ≤ most_wires
  pub m-least : 1 ≤ c.m
  pub m-most : c.m ≤ most_address_bits
  pub n-least : 1 ≤ c.n
  pub n-most : c.n ≤ most_data_bits
  -- each 0 or 1, and a second port only where the start is given (RULES W19 and W22)
  pub kind_fits : c.unknown_start + c.second_port ≤ 1
  pub word_fits : StartFits c.n (start c)
  pub wires-fit : last_wire c ≤ most_wires

-- RULES W12: "A code is at most 2V + 1"
abbrev pub IsCode : Netlist → ℕ → Type 0
IsCode c x = x ≤ 2 * last_wire c + 1

-- refusal 5 (RULES T5): a code, gate operand or reset outside its limit
pub record CodesFit (c : Netlist) : Type 0 where
  pub next_fits : (l : ℕ) → l < c.latches → IsCode c (c.next l)
  pub reset-fits : (l : ℕ) → l < c.latches → c.reset l ≤ 1
  pub left-fits : (g : ℕ) → g < c.gates → c.left g < 2 * gate_wire c g
  pub right-fits : (g : ℕ) → g < c.gates → c.right g < 2 * gate_wire c g
  pub address-fits : (p : ℕ) → IsPort c p → (t : ℕ) → t < c.m → IsCode c ((port c p).address t)
  pub data-fits : (t : ℕ) → t < c.n → IsCode c (c.write_data t)
  pub WE-fits : IsCode c c.WE
  pub RE-fits : (p : ℕ) → IsPort c p → IsCode c (port c p).RE
  pub P-fits : IsCode c c.P

-- what refusals 4 and 5 leave: sizes and codes within their limits
pub record WithinLimits (c : Netlist) : Type 0 where
  pub sizes : SizesFit c
  pub codes : CodesFit c

-- refusal 17 (RULES T17): two address codes of a port that are of one wire, inverted or not. Wire 0 is the constants': they may repeat.
pub record NoTie (c : Netlist) (p : Port) : Type 0 where
  pub tie-free : (s t : ℕ) → s < t → t < c.m → p.address s / 2 ≡ p.address t / 2 → p.address t / 2 ≡ 0

-- refusal 6 (RULES T6): an address code or RE depends on a read bit, of whichever port
pub record NoLoop (c : Netlist) (p : Port) : Type 0 where
  pub address-free : (t : ℕ) → t < c.m → depends_on_read c (p.address t / 2) ≡ false
  pub RE-free : depends_on_read c (p.RE / 2) ≡ false

pub record Accepted (c : Netlist) : Type 0 where
  pub limits : WithinLimits c
  pub no_tie : (p : ℕ) → IsPort c p → NoTie c (port c p)
  pub no_loop : (p : ℕ) → IsPort c p → NoLoop c (port c p)

-- Dependence on a read bit is a path through gates: of every netlist within limits, so of those too that refusal 6 is about. Promised
-- by `heading` and `read`; `paths` in proofs/Dependence.antt is of this type.
abbrev pub PathTheorem : Type 0
PathTheorem = (c : Netlist) → WithinLimits c → (w : ℕ) → (depends_on_read c w ≡ true) ↔ ReadPath c w
