-- `sheet_one_port::read_one_port` meets its contract: the refusal of the sheet, or of its use of the second port, or the netlist renumbered.

use mathlib.Core.Path.{◌≡◌, refl, sym, ◌∙◌, subst}
use mathlib.Core.List.{[]}
use Rattle.refusals.specs.Verdict.{Passed}
use Rattle.model.specs.Acceptance.{SizesFit, WithinLimits}
use Rattle.netlist.specs.NetOf.{alone}
use Rattle.netlist.proofs.NetOf.{sizes-lists}
use Rattle.sheet_steps.proofs.Records.{verdict-is, holds}
use Rattle.sheet_parse.specs.Files.{net_in}
use Rattle.sheet_tests.specs.Sheet.{file_verdict, sheet_verdict}
use Rattle.sheet_tests.proofs.Codes.{accepted-in, passed-file}
use Rattle.sheet_one_port.proofs.OneCode.{agree-lists}
use Rattle.sheet_one_port.proofs.OnePortCall.{room-for-all, tests-refused, tests-second, read-refused}
use Rattle.sheet_one_port.proofs.read_one_port.Goals as goal
use Rattle.sheet_one_port.proofs.read_one_port.Goals.{In_default}

pub returns-in-Err : goal.returns-in-Err
returns-in-Err c =
    read-refused c.args.file.now c.in-Err.is
    (tests-refused c.args.file.now (sym (room-for-all c.args.file.now) ∙ sym (verdict-is c.read_codes-sheet.ensures) ∙ c.in-Err.is))

-- the sheet passes its own tests: the record and the lists hold its netlist, which is within its limits
module _ (c : In_default) where
  read-passed : sheet_verdict c.args.file.now 600 600 ≡ Passed
  read-passed = sym (verdict-is c.read_codes-sheet.ensures) ∙ c.in_default.is

  passed : file_verdict c.args.file.now ≡ Passed
  passed = passed-file c.args.file.now 600 600 read-passed

  limits : WithinLimits (net_in c.args.file.now)
  limits = (accepted-in c.args.file.now passed).limits

  sizes : SizesFit (alone c.read_codes-sheet.result.net)
  sizes = sizes-lists _ _ _ [] [] (subst SizesFit (sym (holds c.read_codes-sheet.ensures read-passed).net-is) limits.sizes)

pub test_second-used-requires : goal.test_second-used-requires
test_second-used-requires c = sizes (goal.at.test_second-used-requires c).In_default

pub returns-in-Err-used : goal.returns-in-Err-used
returns-in-Err-used c =
    let file = c.args.file.now in
    let held = holds c.read_codes-sheet.ensures (read-passed (goal.at.returns-in-Err-used c).In_default) in
    let second = rw held.net-is at (sym c.test_second-used.ensures ∙ c.in-Err-used.is) in
    rw c.refused.ensures (read-refused file refl (tests-second file (passed (goal.at.returns-in-Err-used c).In_default) ∙ second))

pub renumber-requires : goal.renumber-requires
renumber-requires c = sizes (goal.at.renumber-requires c).In_default

pub renumber-requires-2 : goal.renumber-requires-2
renumber-requires-2 c = sizes (goal.at.renumber-requires-2 c).In_default

pub one_record-requires : goal.one_record-requires
one_record-requires c = sizes (goal.at.one_record-requires c).In_default

pub returns : goal.returns
returns c =
    let file = c.args.file.now in
    let held = holds c.read_codes-sheet.ensures (read-passed (goal.at.returns c).In_default) in
    let second = rw held.net-is at (sym c.test_second-used.ensures ∙ c.in_default-used.is) in
    record {
      verdict-is = sym (tests-second file (passed (goal.at.returns c).In_default) ∙ second);
      agrees = λ _.
          rw (← held.net-is)
          (agree-lists c.read_codes-sheet.result.net c.one_record.result (subst WithinLimits (sym held.net-is) (limits (goal.at.returns c).In_default)) c.one_record.ensures c.renumber.ensures c.renumber-2.ensures);
    }
