-- The lines of a netlist's sheet (RULES S7, S13 and S14): what stands at which place, the first being 1. A fault of a record has
-- the place that it would have in a sheet. Cited by the tests of records, by the sheet reader and by call_unpacked/specs/Calls.
use Rattle.std.specs.Prelude.{ℕ, ◌+◌, ◌-◌, ◌*◌, ◌<◌, cond, leb, ltb}
use Rattle.model.specs.Netlist.{Netlist}
use Rattle.netlist.specs.declared.Line.{Line}
use Rattle.netlist.specs.declared.Line.TheVariants.{Sizes, Memory, Latch, Gate, Address, WriteData, SecondAddress, SecondEnable, Control}

-- the places: one line N, one line M or T, then latches, gates, address codes, write-data codes, of a second port its address codes and
-- its RE, and last one line C
abbrev pub sizes_line : ℕ
sizes_line = 1

abbrev pub memory_line : ℕ
memory_line = 2

abbrev pub latch_line : Netlist → ℕ → ℕ
latch_line c l = 3 + l

abbrev pub gate_line : Netlist → ℕ → ℕ
gate_line c g = 3 + c.latches + g

abbrev pub address_line : Netlist → ℕ → ℕ
address_line c t = 3 + c.latches + c.gates + t

abbrev pub data_line : Netlist → ℕ → ℕ
data_line c t = 3 + c.latches + c.gates + c.m + t

abbrev pub second_address_line : Netlist → ℕ → ℕ
second_address_line c t = 3 + c.latches + c.gates + c.m + c.n + t

abbrev pub second_enable_line : Netlist → ℕ
second_enable_line c = second_address_line c c.m

abbrev pub control_line : Netlist → ℕ
control_line c = second_address_line c 0 + c.second_port * (c.m + 1)

-- the line due at a place from 1 to control_line c
unfoldable pub line_at : Netlist → ℕ → Line
line_at c p =
    cond (ltb p memory_line) Sizes
    (cond (ltb p (latch_line c 0)) Memory
    (cond (ltb p (gate_line c 0)) (Latch (p - latch_line c 0))
    (cond (ltb p (address_line c 0)) (Gate (p - gate_line c 0))
    (cond (ltb p (data_line c 0)) (Address (p - address_line c 0))
    (cond (ltb p (second_address_line c 0)) (WriteData (p - data_line c 0))
    (cond (leb (control_line c) p) Control
    (cond (ltb p (second_enable_line c)) (SecondAddress (p - second_address_line c 0)) SecondEnable)))))))

-- a line that the netlist has: its number is below the size
abbrev pub HasLine : Netlist → Line → Type 0
HasLine c Sizes = Unit {0}
HasLine c Memory = Unit {0}
HasLine c (Latch l) = l < c.latches
HasLine c (Gate g) = g < c.gates
HasLine c (Address t) = t < c.m
HasLine c (WriteData t) = t < c.n
HasLine c (SecondAddress t) = (0 < c.second_port) × (t < c.m)
HasLine c SecondEnable = 0 < c.second_port
HasLine c Control = Unit {0}
