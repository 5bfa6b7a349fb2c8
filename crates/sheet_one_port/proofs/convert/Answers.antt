-- `sheet_one_port::convert` meets its contract: the tests of the sheet and of its second port, that of the room, and the sheet with one port.

use mathlib.Core.Path.{◌≡◌, sym, ◌∙◌}
use mathlib.Core.List.{[]}
use native.Mathlib.Omega.{arith}
use lib.ListN.{length}
use Rattle.std.proofs.lemmas.Result.{err_from_is_err_and}
use Rattle.refusals.specs.Verdict.{Passed}
use Rattle.model.specs.Acceptance.{SizesFit}
use Rattle.model.proofs.Agree.{accepted-same}
use Rattle.refusals.specs.Tests.{◌then◌}
use Rattle.refusals.specs.Slices.{with_count, contents_after}
use Rattle.refusals.proofs.Slices.{room-enough, room-short}
use Rattle.netlist.specs.NetOf.{net_of, alone}
use Rattle.netlist.proofs.NetOf.{sizes-lists}
use Rattle.refusals.specs.Slices.{count_reply}
use Rattle.sheet_text.proofs.SheetText.{length-sheet_text}
use Rattle.sheet_one_port.specs.OnePortCall.{one_port_text, one_port_tests, one_port_verdict, one_port_sent, one_port_leaves}
use Rattle.sheet_one_port.proofs.OnePortCall.{text_same, accepted-text, one-port-theorem}
use Rattle.sheet_one_port.proofs.convert.Goals as goal
use Rattle.sheet_one_port.proofs.convert.Goals.{In_ok-sheet}

pub returns-in_err-sheet : goal.returns-in_err-sheet
unfolding count_reply one_port_verdict one_port_sent one_port_leaves with_count contents_after ◌then◌
returns-in_err-sheet c =
    let p = err_from_is_err_and c.from_residual.result c.from_residual.ensures.1 in
    let v = sym c.read_one_port-sheet.ensures.verdict-is ∙ c.in_err-sheet.was in
    record { answer = rw (p.1, p.2, v); borrowed = rw v; converted = one-port-theorem }

-- the tests pass, and the record and the lists stand for a netlist with one port within its limits
module _ (c : In_ok-sheet) where
  passed : one_port_tests c.args.file.now ≡ Passed
  passed = sym c.read_one_port-sheet.ensures.verdict-is ∙ c.in_ok-sheet.was

  sizes : SizesFit (alone c.read_one_port-sheet.result.net)
  sizes = sizes-lists _ _ _ [] [] (accepted-same _ _ (c.read_one_port-sheet.ensures.agrees passed) (accepted-text c.args.file.now passed)).limits.sizes

pub control_line-requires : goal.control_line-requires
control_line-requires c = sizes (goal.at.control_line-requires c).In_ok-sheet

pub returns-then-out-control_line : goal.returns-then-out-control_line
unfolding net_of count_reply one_port_verdict one_port_sent one_port_leaves with_count contents_after ◌then◌
returns-then-out-control_line c =
    let v = passed (goal.at.returns-then-out-control_line c).In_ok-sheet in
    let agree = c.read_one_port-sheet.ensures.agrees v in
    let long = length-sheet_text _ (accepted-same _ _ agree (accepted-text c.args.file.now v)).limits in
    let short = room-short (length (one_port_text c.args.file.now)) (length c.args.out.now) (rw (text_same c.args.file.now agree) (omega (arith, long, c.if-out-control_line.true, c.control_line.ensures))) in
    record { answer = rw (v, short); borrowed = rw (v, short); converted = one-port-theorem }

pub put_sheet-requires : goal.put_sheet-requires
put_sheet-requires c = (sizes (goal.at.put_sheet-requires c).In_ok-sheet, omega (arith, c.if-out-control_line.false, c.control_line.ensures))

pub returns : goal.returns
unfolding net_of count_reply one_port_verdict one_port_sent one_port_leaves with_count contents_after ◌then◌
returns c =
    let v = passed (goal.at.returns c).In_ok-sheet in
    let agree = c.read_one_port-sheet.ensures.agrees v in
    let long = length-sheet_text _ (accepted-same _ _ agree (accepted-text c.args.file.now v)).limits in
    let w = c.put_sheet.ensures in
    let text = text_same c.args.file.now agree in
    let enough = room-enough (length (one_port_text c.args.file.now)) (length c.args.out.now) (rw text (omega (arith, long, c.if-out-control_line.false, c.control_line.ensures))) in
    record { answer = rw (v, enough, text, w.counted); borrowed = rw (v, enough, text) w.leaves; converted = one-port-theorem }
