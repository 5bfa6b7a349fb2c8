-- What a reader returns and leaves in its own unpacked lists, for lent lists that have room for so many records. Cited by
-- `read_codes`.
use Rattle.std.specs.Prelude.{ℕ, List}
use Rattle.sheet_steps.specs.Steps.{Outcome}
use Rattle.sheet_steps.specs.declared.SheetAnswer.{SheetAnswer}
use Rattle.sheet_parse.specs.Files.{net_in}
use Rattle.sheet_tests.specs.Sheet.{sheet_verdict}

-- the answer with the sheet's verdict and its netlist, and the lists beside it
abbrev pub CodesRead : List ℕ → ℕ → ℕ → SheetAnswer → List ℕ → List ℕ → Type 0
CodesRead file latch_room gate_room sheet latches gates =
    Outcome sheet latches gates (sheet_verdict file latch_room gate_room) (net_in file)
