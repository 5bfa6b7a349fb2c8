-- `program_input::read_sheet` meets its contract: it passes on what is read.

use mathlib.Core.Path.{◌∙◌, ap}
use Rattle.sheet_steps.proofs.Records.{verdict-is, record_is}
use Rattle.program_input.specs.declared.Input.{Input}
use Rattle.program_input.proofs.read_sheet.Goals as goal

pub returns : goal.returns
returns c =
    let read = c.read_codes-sheet.ensures in
    let net = ap (λ (i : Input). i.net) c.answer.ensures in
    record { answer = c.answer.ensures ∙ rw (verdict-is read, record_is read); lists = rw net read.lists-are }
