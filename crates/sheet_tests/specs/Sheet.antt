-- The verdict on a sheet: its tests in their order (RULES T53 and T34 to T37), over the line due at a place from the sizes alone, the faults
-- of a line, and the first faulty line. It is not the reader's own way through the file. Cited by `test_end`, `test_file`,
-- sheet_tests/specs/Codes, sheet_reader/specs/ReadCall, program_input/specs/Input and calls/specs/Starred.
use Rattle.std.specs.Prelude.{ℕ, ◌+◌, List, ltb}
use Rattle.refusals.specs.Verdict.{Verdict}
use Rattle.model.specs.Netlist.{Netlist}
use Rattle.refusals.specs.Tests.{refuse_if, ◌then◌, in_order}
use Rattle.refusals.specs.declared.Refusal.TheVariants.{Ragged, OutOfOrder, NoRoom}
use Rattle.netlist.specs.Places.{control_line}
use Rattle.netlist_tests.specs.Record.{lists_short, test_ports}
use Rattle.sheet_parse.specs.Files.{line_count, net_in}
use Rattle.sheet_parse.specs.FileTests.{ragged, test_line_in}

-- after the last of `count` lines. RULES T53: "Then 3 for a missing line, then 17, then 6", at one past the last (RULES T3)
unfoldable pub end_verdict : Netlist → ℕ → Verdict
end_verdict c count =
    refuse_if (ltb count (control_line c)) OutOfOrder (count + 1)
    then test_ports c

-- RULES T53: "for 1. Then line by line, .."; the tests of what the file says
unfoldable pub file_verdict : List ℕ → Verdict
file_verdict file =
    refuse_if (ragged file) Ragged 0
    then in_order (test_line_in (net_in file) file) (line_count file)
    then end_verdict (net_in file) (line_count file)

-- RULES T53, "then 9", at place 0, for lists that have room for latch_room and gate_room records
unfoldable pub sheet_verdict : List ℕ → ℕ → ℕ → Verdict
sheet_verdict file latch_room gate_room =
    file_verdict file then refuse_if (lists_short (net_in file) latch_room gate_room) NoRoom 0
