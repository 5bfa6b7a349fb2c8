-- What `export_aig` prints for a sheet (RULES P3 and P28). Cited by `write_output`, and by what the program writes.
use Rattle.std.specs.Prelude.{ℕ, ◌≤◌, ◌≡◌, List, ◌⊎◌}
use Rattle.refusals.specs.Verdict.{Verdict, refuse}
use Rattle.model.specs.Limits.{most_wires}
use Rattle.refusals.specs.Refusal.{refusal_number}
use Rattle.refusals.specs.Tests.{◌then◌}
use Rattle.refusals.specs.declared.Refusal.{Refusal}
use Rattle.sheet_parse.specs.Files.{net_in}
use Rattle.aiger_export.specs.ExportCall.{export_text, test_export}
use Rattle.program_input.specs.Input.{sheet_in, text_or_refusal}

-- RULES P28: "the tests of the sheet, then those of the export of its record"; lists of 600 records each are the program's own
unfoldable pub export_tests : List ℕ → Verdict
export_tests file = sheet_in file then test_export (net_in file) most_wires most_wires

-- the file, or the refusal
unfoldable pub export_output : List ℕ → List ℕ
export_output file = text_or_refusal (export_tests file) (export_text (net_in file))

-- RULES P28: "Only 1 to 6, 17 and 19 occur"
abbrev pub OnlyExportRefusals : Type 0
OnlyExportRefusals = (file : List ℕ) (r : Refusal) (p : ℕ) → export_tests file ≡ refuse r p
    → (refusal_number r ≤ 6) ⊎ ((refusal_number r ≡ 17) ⊎ (refusal_number r ≡ 19))
