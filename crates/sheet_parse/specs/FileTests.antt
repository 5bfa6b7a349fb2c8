-- The tests of a file and of its lines, in their order (RULES T53): the line due at a place from the sizes alone, and
-- the faults of a line in their order. Cited by `is_ragged`, sheet_loop and sheet_tests/specs/Sheet.
use Rattle.std.specs.Prelude.{ℕ, ◌%◌, Bool, not, ◌||◌, List, eqb, ltb, length}
use Rattle.refusals.specs.Verdict.{Verdict, refuse}
use Rattle.model.specs.Limits.{line_bytes, most_bytes}
use Rattle.model.specs.Netlist.{Netlist}
use Rattle.refusals.specs.Tests.{refuse_if, ◌then◌}
use Rattle.refusals.specs.declared.Refusal.TheVariants.{Misprint, OutOfOrder}
use Rattle.netlist.specs.Places.{line_at, control_line}
use Rattle.sheet_lines.specs.declared.ParsedLine.{ParsedLine}
use Rattle.sheet_lines.specs.declared.ParsedLine.TheVariants as ParsedLine
use Rattle.sheet_steps.specs.Due.{is_due}
use Rattle.sheet_steps.specs.LineFaults.{faults_at}
use Rattle.sheet_parse.specs.Files.{line_in}

-- RULES T1: "the file is empty, its length is no multiple of 32 bytes, or it has more than 20,064 bytes"
unfoldable pub ragged : List ℕ → Bool
ragged file = eqb (length file) 0 || not (eqb (length file % line_bytes) 0) || ltb most_bytes (length file)

-- RULES T53: "line by line, at each line 2, then 3, then 4 or 5"; the place is the line, the first being 1 (RULES S7). What is read there may be misprinted
-- (RULES T2). RULES T3: "not the line due, .. or a line too many"
unfoldable pub test_read : Netlist → ℕ → ParsedLine → Verdict
test_read c p ParsedLine.Misprint = refuse Misprint p
test_read c p (ParsedLine.Read kind x y z e) =
    refuse_if (ltb (control_line c) p || not (is_due (line_at c p) kind)) OutOfOrder p then faults_at c (line_at c p) p

unfoldable pub test_line_in : Netlist → List ℕ → ℕ → Verdict
test_line_in c file p = test_read c p (line_in file p)
