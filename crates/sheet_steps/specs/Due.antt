-- The kind of the line due at a place (RULES S5, S7, S13 and S14). Cited by the functions that take one line more and by
-- sheet_parse/specs/FileTests.
use Rattle.std.specs.Prelude.{Bool, ◌&&◌, ◌||◌, eqb}
use Rattle.netlist.specs.declared.Line.{Line}
use Rattle.netlist.specs.declared.Line.TheVariants as Due
use Rattle.sheet_lines.specs.Letters.{row_of}
use Rattle.sheet_lines.specs.declared.Kind.{Kind}
use Rattle.sheet_lines.specs.declared.Kind.TheVariants.{Sizes, Memory, TwoPorts, Latch, Gate, Address, WriteData, SecondAddress, SecondEnable, Control}

-- of line 2 that of letter M
abbrev pub kind_due : Line → Kind
kind_due Due.Sizes = Sizes
kind_due Due.Memory = Memory
kind_due (Due.Latch l) = Latch
kind_due (Due.Gate g) = Gate
kind_due (Due.Address t) = Address
kind_due (Due.WriteData t) = WriteData
kind_due (Due.SecondAddress t) = SecondAddress
kind_due Due.SecondEnable = SecondEnable
kind_due Due.Control = Control

-- whether a line of kind k is the line due; where M is due, T is too (RULES S14)
abbrev pub is_due : Line → Kind → Bool
is_due due k = eqb (row_of k) (row_of (kind_due due)) || (eqb (row_of k) (row_of TwoPorts) && eqb (row_of (kind_due due)) (row_of Memory))
