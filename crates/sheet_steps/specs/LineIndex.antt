-- A line's number among those of its kind. Cited by the functions that store a line, and by no public contract.
use Rattle.std.specs.Prelude.{ℕ, Bool, ◌&&◌, eqb}
use Rattle.model.specs.Limits.{most_wires, most_address_bits, most_data_bits}
use Rattle.netlist.specs.declared.Line.{Line}
use Rattle.netlist.specs.declared.Line.TheVariants.{Sizes, Memory, Latch, Gate, Address, WriteData, SecondAddress, SecondEnable, Control}
use Rattle.sheet_lines.specs.Letters.{row_of}
use Rattle.sheet_steps.specs.Due.{kind_due}

-- the number of a line among those of its kind
abbrev pub line_index : Line → ℕ
line_index Sizes = 0
line_index Memory = 0
line_index (Latch l) = l
line_index (Gate g) = g
line_index (Address t) = t
line_index (WriteData t) = t
line_index (SecondAddress t) = t
line_index SecondEnable = 0
line_index Control = 0

-- how many lines of its kind the record and the lists have room for
abbrev pub room_for : Line → ℕ
room_for Sizes = 1
room_for Memory = 1
room_for (Latch l) = most_wires
room_for (Gate g) = most_wires
room_for (Address t) = most_address_bits
room_for (WriteData t) = most_data_bits
room_for (SecondAddress t) = most_address_bits
room_for SecondEnable = 1
room_for Control = 1

-- whether two lines are the same: of one kind, and with the same number
abbrev pub same_line : Line → Line → Bool
same_line a b = eqb (row_of (kind_due a)) (row_of (kind_due b)) && eqb (line_index a) (line_index b)
