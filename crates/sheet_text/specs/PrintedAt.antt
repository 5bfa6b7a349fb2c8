-- A line of a netlist's sheet by the table of letters (RULES S5 and S8). Cited by the functions that write a line.
use Rattle.std.specs.Prelude.{ℕ, cond, List, eqb}
use Rattle.model.specs.Netlist.{Netlist}
use Rattle.netlist.specs.declared.Line.{Line}
use Rattle.netlist.specs.declared.Line.TheVariants as Due
use Rattle.sheet_lines.specs.Lines.{line_text}
use Rattle.sheet_lines.specs.declared.Kind.{Kind}
use Rattle.sheet_lines.specs.declared.Kind.TheVariants.{Sizes, Memory, TwoPorts, Latch, Gate, Address, WriteData, SecondAddress, SecondEnable, Control}

-- the second line is M, or T where there is a second port (RULES S14)
abbrev pub memory_kind : ℕ → Kind
memory_kind second_port = cond (eqb second_port 0) Memory TwoPorts

-- the kind and the numbers of a line, 0 where a field is always empty; and whether the third is to be left empty, as an initial word is where the start is
-- unknown (RULES S11)
unfoldable pub printed_at : Netlist → Line → List ℕ
printed_at c Due.Sizes = line_text Sizes c.inputs c.latches c.gates 0
printed_at c Due.Memory = line_text (memory_kind c.second_port) c.m c.n c.initial_word c.unknown_start
printed_at c (Due.Latch l) = line_text Latch (c.next l) (c.reset l) 0 0
printed_at c (Due.Gate g) = line_text Gate (c.left g) (c.right g) 0 0
printed_at c (Due.Address t) = line_text Address (c.address t) 0 0 0
printed_at c (Due.WriteData t) = line_text WriteData (c.write_data t) 0 0 0
printed_at c (Due.SecondAddress t) = line_text SecondAddress (c.address2 t) 0 0 0
printed_at c Due.SecondEnable = line_text SecondEnable c.RE2 0 0 0
printed_at c Due.Control = line_text Control c.WE c.RE c.P 0
