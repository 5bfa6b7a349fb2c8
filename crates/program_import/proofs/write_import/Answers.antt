-- `program_import::write_import` meets its contract: the refusal, if any, or the sheet of what was imported, which is no longer than the longest.

use mathlib.Core.Path.{◌≡◌, sym, ◌∙◌, subst}
use mathlib.Core.List.{[]}
use native.Mathlib.Omega.{arith}
use Rattle.refusals.specs.Verdict.{Passed}
use Rattle.model.specs.Acceptance.{SizesFit, WithinLimits}
use Rattle.netlist.specs.NetOf.{net_of, alone}
use Rattle.netlist.proofs.NetOf.{sizes-lists}
use Rattle.call_unpacked.proofs.Calls.{lines-most}
use Rattle.sheet_steps.proofs.Records.{verdict-is, holds}
use Rattle.aiger_netlist.specs.TextNetlist.{aag_net}
use Rattle.aiger_netlist.specs.ImportVerdict.{import_verdict}
use Rattle.aiger_netlist.proofs.Verdict.{import-passed}
use Rattle.aiger_import.specs.ImportCall.{imported_word}
use Rattle.sheet_text.proofs.SheetText.{length-sheet_text}
use Rattle.program_import.proofs.Cut.{printed-passed, printed-refused}
use Rattle.program_import.proofs.write_import.Goals as goal
use Rattle.program_import.proofs.write_import.Goals.{In_default}

pub write_refused-requires : goal.write_refused-requires
write_refused-requires c = omega (arith, c.requires)

pub returns-in-Err : goal.returns-in-Err
returns-in-Err c =
    let v = sym (verdict-is c.import_text-sheet.ensures) ∙ c.in-Err.is in
    let w = rw c.number.ensures at c.write_refused.ensures in
    record { text = rw (printed-refused c.args.more c.args.text.now c.args.m c.args.n c.args.word c.args.unknown c.args.second _ _ v) w.text; most = omega (arith, w.most) }

-- what is imported is held by the record and the lists, and its sizes fit
module _ (c : In_default) where
  passed : import_verdict c.args.text.now c.args.m c.args.n (imported_word c.args.word c.args.unknown) c.args.unknown c.args.second 600 600 ≡ Passed
  passed = sym (verdict-is c.import_text-sheet.ensures) ∙ c.in_default.is

  limits : WithinLimits (aag_net c.args.text.now c.args.m c.args.n (imported_word c.args.word c.args.unknown) c.args.unknown c.args.second)
  limits = (import-passed _ _ _ _ _ _ 600 600 passed).accepted.limits

  sizes : SizesFit (alone c.import_text-sheet.result.net)
  sizes = sizes-lists _ _ _ [] [] (subst SizesFit (sym (holds c.import_text-sheet.ensures passed).net-is) limits.sizes)

pub put_sheet-requires : goal.put_sheet-requires
unfolding net_of
put_sheet-requires c =
    let fit = sizes (goal.at.put_sheet-requires c).In_default in
    (fit, omega (arith, lines-most _ fit, c.requires))

pub returns : goal.returns
returns c =
    let w = rw (holds c.import_text-sheet.ensures (passed (goal.at.returns c).In_default)).net-is at c.put_sheet.ensures in record { text = rw (printed-passed c.args.more c.args.text.now c.args.m c.args.n c.args.word c.args.unknown c.args.second (passed (goal.at.returns c).In_default)) w; most = omega (arith, w.counted, length-sheet_text _ (limits (goal.at.returns c).In_default), lines-most _ (limits (goal.at.returns c).In_default).sizes) }
