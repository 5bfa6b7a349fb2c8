-- `sheet_tests::test_file` meets its contract: each test is passed on where it refuses, and what it passes the next one may assume.

use mathlib.Core.Path.{◌≡◌, refl, sym, ◌∙◌}
use mathlib.Core.Bool.{false}
use native.Mathlib.Omega.{arith}
use Rattle.refusals.specs.Verdict.{Passed}
use Rattle.refusals.specs.Tests.{in_order}
use Rattle.sheet_steps.proofs.Records.{verdict-is, holds, outcome-refused, outcome-kept, outcome-same}
use Rattle.sheet_parse.specs.Files.{line_count, net_in}
use Rattle.sheet_parse.specs.FileTests.{ragged, test_line_in}
use Rattle.sheet_parse.proofs.Files.{whole-lines}
use Rattle.sheet_tests.specs.Sheet.{end_verdict, file_verdict}
use Rattle.sheet_tests.proofs.LinesPassed.{lines-passed}
use Rattle.sheet_tests.proofs.Verdicts.{end-latches, file-ragged, file-refused, file-lines}
use Rattle.sheet_tests.proofs.test_file.Goals as goal
use Rattle.sheet_tests.proofs.test_file.Goals.{After-test_end-ended, Else-is_ragged, In_default}

-- the file is not ragged
even : (c : Else-is_ragged) → ragged c.args.file.now ≡ false
even c = sym c.is_ragged.ensures ∙ c.if-is_ragged.false

-- all its lines have passed
passed_lines : (c : In_default) → in_order (test_line_in (net_in c.args.file.now) c.args.file.now) (line_count c.args.file.now) ≡ Passed
passed_lines c = sym (verdict-is c.read_lines-sheet.ensures) ∙ c.in_default.is

-- the tests behind the last line are those in the file's netlist
ended : (c : After-test_end-ended) → c.test_end-ended.result ≡ end_verdict (net_in c.args.file.now) (line_count c.args.file.now)
ended c =
    c.test_end-ended.ensures
    ∙ end-latches c.read_lines-sheet.result.net c.read_lines-sheet.new.latches c.read_lines-sheet.new.gates (line_count c.args.file.now)
    ∙ rw (holds c.read_lines-sheet.ensures (sym (verdict-is c.read_lines-sheet.ensures) ∙ c.in_default.is)).net-is

-- so they are the rest of the file's verdict
file-ended : (c : After-test_end-ended) → file_verdict c.args.file.now ≡ c.test_end-ended.result
file-ended c =
    file-lines c.args.file.now (sym c.is_ragged.ensures ∙ c.if-is_ragged.false) (sym (verdict-is c.read_lines-sheet.ensures) ∙ c.in_default.is) ∙ sym (ended c)

pub returns-then-is_ragged : goal.returns-then-is_ragged
returns-then-is_ragged c =
    let file = c.args.file.now in
    rw c.refused.ensures
    (outcome-refused _ _ (net_in file) (file-ragged file (sym c.is_ragged.ensures ∙ c.if-is_ragged.true)))

pub read_lines-sheet-requires : goal.read_lines-sheet-requires
read_lines-sheet-requires c =
    (sym c.is_ragged.ensures ∙ c.if-is_ragged.false, c.requires.0, c.requires.1)

pub returns-in-Err : goal.returns-in-Err
returns-in-Err c =
    let file = c.args.file.now in
    let read = c.read_lines-sheet.ensures in
    outcome-kept _ _ (net_in file) read c.in-Err.is
    (file-refused file (even (goal.at.returns-in-Err c).Else-is_ragged) (sym (verdict-is read) ∙ c.in-Err.is))

pub overflow_cast-count : goal.overflow_cast-count
overflow_cast-count c = record { fits = omega (arith, (whole-lines c.args.file.now (even (goal.at.overflow_cast-count c).Else-is_ragged)).most) }

pub test_end-ended-requires : goal.test_end-ended-requires
test_end-ended-requires c =
    let file = c.args.file.now in
    let passed = passed_lines (goal.at.test_end-ended-requires c).In_default in
    (omega (arith, (whole-lines file (even (goal.at.test_end-ended-requires c).Else-is_ragged)).most), lines-passed file c.read_lines-sheet.result.net c.read_lines-sheet.new.latches c.read_lines-sheet.new.gates passed (holds c.read_lines-sheet.ensures passed).net-is)

pub returns-in-Err-ended : goal.returns-in-Err-ended
returns-in-Err-ended c =
    let file = c.args.file.now in
    rw c.refused-in-Err-ended.ensures (outcome-refused _ _ (net_in file) (file-ended (goal.at.returns-in-Err-ended c).After-test_end-ended ∙ c.in-Err-ended.is))

pub returns : goal.returns
returns c =
    let file = c.args.file.now in
    let passed = file-ended (goal.at.returns c).After-test_end-ended ∙ c.in_default-ended.is in
    outcome-same (file_verdict file) (passed_lines (goal.at.returns c).In_default ∙ sym passed) (λ _. refl) c.read_lines-sheet.ensures
