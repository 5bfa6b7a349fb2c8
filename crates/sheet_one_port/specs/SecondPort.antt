-- Which lines use the second port of a netlist (RULES T18). Cited by `second_use`, `test_second` and sheet_one_port/specs/OnePortCall.
use Rattle.std.specs.Prelude.{Bool, false, not, ◌||◌, eqb}
use Rattle.refusals.specs.Verdict.{Verdict}
use Rattle.model.specs.Netlist.{Netlist}
use Rattle.model.specs.OnePort.{names_second}
use Rattle.refusals.specs.declared.Refusal.TheVariants.{SecondPort}
use Rattle.netlist.specs.declared.Line.{Line}
use Rattle.netlist.specs.declared.Line.TheVariants.{Sizes, Memory, Latch, Gate, Address, WriteData, SecondAddress, SecondEnable, Control}
use Rattle.netlist_tests.specs.Record.{test_lines}

-- RULES T18: "a line that has a code of a read bit of the second port, or an R line whose code is not 0"
unfoldable pub second_use : Netlist → Line → Bool
second_use c Sizes = false
second_use c Memory = false
second_use c (Latch l) = names_second c (c.next l)
second_use c (Gate g) = names_second c (c.left g) || names_second c (c.right g)
second_use c (Address t) = names_second c (c.address t)
second_use c (WriteData t) = names_second c (c.write_data t)
second_use c (SecondAddress t) = names_second c (c.address2 t)
second_use c SecondEnable = not (eqb c.RE2 0)
second_use c Control = names_second c c.WE || names_second c c.RE || names_second c c.P

-- RULES T18: "The place is the first such line"
abbrev pub test_second : Netlist → Verdict
test_second c = test_lines c SecondPort second_use
