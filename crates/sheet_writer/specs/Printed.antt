-- A line of a netlist's sheet as a struct: its kind and its numbers (RULES S5). Cited by the functions that write a line.
use Rattle.std.specs.Prelude.{ℕ, List}
use Rattle.model.specs.Netlist.{Netlist}
use Rattle.netlist.specs.declared.Line.{Line}
use Rattle.netlist.specs.declared.Line.TheVariants as Due
use Rattle.sheet_lines.specs.Lines.{line_text}
use Rattle.sheet_lines.specs.declared.Kind.TheVariants.{Sizes, Latch, Gate, Address, WriteData, SecondAddress, SecondEnable, Control}
use Rattle.sheet_text.specs.PrintedAt.{memory_kind}
use Rattle.sheet_writer.specs.declared.PrintedLine.{PrintedLine}

-- The kind and the numbers of a line (RULES S5), 0 where a field is always empty; and whether the third is to be left empty, as an initial
-- word is where the start is unknown (RULES S11). What shows of them is the table's to say (`line_text`)
unfoldable pub printed_line : Netlist → Line → PrintedLine
printed_line c Due.Sizes = record { kind = Sizes; first = c.inputs; second = c.latches; third = c.gates; empty = 0 }
printed_line c Due.Memory = record { kind = memory_kind c.second_port; first = c.m; second = c.n; third = c.initial_word; empty = c.unknown_start }
printed_line c (Due.Latch l) = record { kind = Latch; first = c.next l; second = c.reset l; third = 0; empty = 0 }
printed_line c (Due.Gate g) = record { kind = Gate; first = c.left g; second = c.right g; third = 0; empty = 0 }
printed_line c (Due.Address t) = record { kind = Address; first = c.address t; second = 0; third = 0; empty = 0 }
printed_line c (Due.WriteData t) = record { kind = WriteData; first = c.write_data t; second = 0; third = 0; empty = 0 }
printed_line c (Due.SecondAddress t) = record { kind = SecondAddress; first = c.address2 t; second = 0; third = 0; empty = 0 }
printed_line c Due.SecondEnable = record { kind = SecondEnable; first = c.RE2; second = 0; third = 0; empty = 0 }
printed_line c Due.Control = record { kind = Control; first = c.WE; second = c.RE; third = c.P; empty = 0 }

-- its 32 bytes
unfoldable pub printed_text : PrintedLine → List ℕ
printed_text x = line_text x.kind x.first x.second x.third x.empty
