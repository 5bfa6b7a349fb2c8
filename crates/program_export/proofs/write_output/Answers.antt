-- `program_export::write_output` meets its contract: the refusal of the sheet, or what is written of its record.

use mathlib.Core.Path.{sym, ◌∙◌}
use native.Mathlib.Omega.{arith}
use Rattle.sheet_steps.proofs.Records.{verdict-is, holds}
use Rattle.aiger_export.proofs.Exported.{exported}
use Rattle.program_export.proofs.Printed.{output-refused, output-tested, only-due}
use Rattle.program_export.proofs.write_output.Goals as goal

pub returns-in-Err : goal.returns-in-Err
returns-in-Err c =
    let v = sym (verdict-is c.read_codes-sheet.ensures) ∙ c.in-Err.is in
    let w = c.write_refused.ensures in
    record { text = rw (output-refused c.args.file.now v) w.0; most = omega (arith, w.1); exported = exported; refusals = only-due }

pub returns : goal.returns
returns c =
    let read = c.read_codes-sheet.ensures in
    let v = sym (verdict-is read) ∙ c.in_default.is in
    let w = rw (holds read v).net-is at c.write_export.ensures in
    record { text = rw (output-tested c.args.file.now v) w.0; most = w.1; exported = exported; refusals = only-due }
