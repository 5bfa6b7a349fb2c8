-- `sheet_tests::read_codes` meets its contract: the file's verdict, then the test of the lists' room.

use mathlib.Core.Path.{◌≡◌, refl, sym, ◌∙◌}
use mathlib.Core.Bool.{◌||◌}
use lib.Dec.{ltb}
use Rattle.refusals.specs.Verdict.{Passed}
use Rattle.sheet_steps.specs.Lists.{Holds}
use Rattle.sheet_steps.proofs.Records.{verdict-is, holds, outcome-refused, outcome-kept, outcome-same}
use Rattle.sheet_parse.specs.Files.{net_in}
use Rattle.sheet_tests.specs.Sheet.{file_verdict, sheet_verdict}
use Rattle.sheet_tests.proofs.Codes.{sizes-held, short, sheet-refused, sheet-short, sheet-passed}
use Rattle.sheet_tests.proofs.read_codes.Goals as goal
use Rattle.sheet_tests.proofs.read_codes.Goals.{In_default}

-- the file has passed its tests
passed : (c : In_default) → file_verdict c.args.file.now ≡ Passed
passed c = sym (verdict-is c.test_file-sheet.ensures) ∙ c.in_default.is

-- the record and the lists hold its netlist
held : (c : In_default) → Holds c.test_file-sheet.result.net c.test_file-sheet.new.latches
    c.test_file-sheet.new.gates (net_in c.args.file.now)
held c = holds c.test_file-sheet.ensures (passed c)

-- whether a list has too little room, by the record
short-held : (c : In_default) →
    let net = c.test_file-sheet.result.net in
    (ltb c.args.latch_room net.latches || ltb c.args.gate_room net.gates) ≡ short c.args.file.now c.args.latch_room c.args.gate_room
short-held c =
    let sizes = sizes-held c.test_file-sheet.result.net c.test_file-sheet.new.latches c.test_file-sheet.new.gates (held c) in
    rw (sizes.0, sizes.1)

pub returns-in-Err : goal.returns-in-Err
returns-in-Err c =
    let file = c.test_file-sheet.ensures in
    outcome-kept _ _ (net_in c.args.file.now) file c.in-Err.is
    (sheet-refused c.args.file.now c.args.latch_room c.args.gate_room (sym (verdict-is file) ∙ c.in-Err.is))

pub returns-then-latch_room-net : goal.returns-then-latch_room-net
returns-then-latch_room-net c =
    rw c.refused.ensures
    (outcome-refused _ _ (net_in c.args.file.now)
    (sheet-short c.args.file.now c.args.latch_room c.args.gate_room (passed (goal.at.returns-then-latch_room-net c).In_default) (sym (short-held (goal.at.returns-then-latch_room-net c).In_default) ∙ c.if-latch_room-net.true)))

pub returns : goal.returns
returns c =
    let fits = sheet-passed c.args.file.now c.args.latch_room c.args.gate_room (passed (goal.at.returns c).In_default) (sym (short-held (goal.at.returns c).In_default) ∙ c.if-latch_room-net.false) in
    outcome-same (sheet_verdict c.args.file.now c.args.latch_room c.args.gate_room) (passed (goal.at.returns c).In_default ∙ sym fits) (λ _. refl)
    c.test_file-sheet.ensures
