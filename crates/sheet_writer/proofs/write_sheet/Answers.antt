-- `sheet_writer::write_sheet` meets its contract: the tests of the record, that of the room, and the sheet.

use mathlib.Core.Path.{◌≡◌, sym}
use mathlib.Core.List.{[]}
use native.Mathlib.Omega.{arith}
use lib.ListN.{length}
use Rattle.std.proofs.lemmas.Result.{err_from_is_err_and}
use Rattle.refusals.specs.Verdict.{Passed}
use Rattle.model.specs.Acceptance.{Accepted}
use Rattle.refusals.specs.Tests.{◌then◌}
use Rattle.refusals.specs.Slices.{with_count, contents_after}
use Rattle.refusals.proofs.Slices.{room-enough, room-short}
use Rattle.netlist.specs.NetOf.{net_of}
use Rattle.netlist.proofs.NetOf.{sizes-lists}
use Rattle.netlist_tests.specs.Record.{record_verdict}
use Rattle.netlist_tests.proofs.Acceptance.{passes-accepted}
use Rattle.refusals.specs.Slices.{count_reply}
use Rattle.sheet_text.specs.SheetText.{sheet_text}
use Rattle.sheet_writer.specs.WriteCall.{write_sheet_verdict, write_sent, write_leaves}
use Rattle.sheet_text.proofs.SheetText.{length-sheet_text}
use Rattle.sheet_writer.proofs.WriteCall.{sheet-written}
use Rattle.sheet_writer.proofs.write_sheet.Goals as goal
use Rattle.sheet_writer.proofs.write_sheet.Goals.{In_ok-test_record}

pub returns-in_err-test_record : goal.returns-in_err-test_record
unfolding count_reply write_sheet_verdict write_sent write_leaves with_count contents_after ◌then◌
returns-in_err-test_record c =
    let p = err_from_is_err_and c.from_residual.result c.from_residual.ensures.1 in
    let v = sym c.in_err-test_record.ensures in
    record { answer = rw (p.1, p.2, v); borrowed = rw v; written = sheet-written }

-- the record is accepted, its sizes fit, and so its sheet is so long
module _ (c : In_ok-test_record) where
  passed : record_verdict (net_of c.args.net c.args.latches.now c.args.gates.now) c.args.latch_count c.args.gate_count ≡ Passed
  passed = sym c.in_ok-test_record.ensures

  accepted : Accepted (net_of c.args.net c.args.latches.now c.args.gates.now)
  accepted = ((passes-accepted _ _ _).0 passed).0

pub control_line-requires : goal.control_line-requires
control_line-requires c = sizes-lists _ _ _ [] [] (accepted c).limits.sizes

pub returns-then-out-control_line : goal.returns-then-out-control_line
unfolding net_of count_reply write_sheet_verdict write_sent write_leaves with_count contents_after ◌then◌
returns-then-out-control_line c =
    let v = passed (goal.at.returns-then-out-control_line c).In_ok-test_record in
    let short = room-short (length (sheet_text (net_of c.args.net c.args.latches.now c.args.gates.now))) (length c.args.out.now) (omega (arith, length-sheet_text _ (accepted (goal.at.returns-then-out-control_line c).In_ok-test_record).limits, c.if-out-control_line.true, c.control_line.ensures)) in
    record { answer = rw (v, short); borrowed = rw (v, short); written = sheet-written }

pub put_sheet-requires : goal.put_sheet-requires
put_sheet-requires c =
    (sizes-lists _ _ _ [] [] (accepted (goal.at.put_sheet-requires c).In_ok-test_record).limits.sizes, omega (arith, c.if-out-control_line.false, c.control_line.ensures))

pub returns : goal.returns
unfolding net_of count_reply write_sheet_verdict write_sent write_leaves with_count contents_after ◌then◌
returns c =
    let v = passed (goal.at.returns c).In_ok-test_record in
    let w = c.put_sheet.ensures in
    let enough = room-enough (length (sheet_text (net_of c.args.net c.args.latches.now c.args.gates.now))) (length c.args.out.now) (omega (arith, length-sheet_text _ (accepted (goal.at.returns c).In_ok-test_record).limits, c.if-out-control_line.false, c.control_line.ensures)) in
    record { answer = rw (v, enough, w.counted); borrowed = rw (v, enough) w.leaves; written = sheet-written }
