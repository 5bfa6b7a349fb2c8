-- `program_input::read_input` meets its contract: the depth is tested first, and the sheet stands behind it.

use mathlib.Core.Path.{◌≡◌, sym, ◌∙◌}
use native.Mathlib.Omega.{arith}
use Rattle.refusals.specs.Verdict.{Passed}
use Rattle.refusals.proofs.Table.{reply-tells}
use Rattle.sheet_lines.specs.Depth.{depth_verdict}
use Rattle.sheet_lines.proofs.Depth.{passed-long}
use Rattle.sheet_steps.specs.Records.{record_beside}
use Rattle.program_input.specs.Input.{input_answer}
use Rattle.program_input.proofs.Replies.{depth-decides, sheet-decides, behind-depth, input-taken, input-encoded}
use Rattle.program_input.proofs.Refusals.{only-refusals}
use Rattle.program_input.proofs.read_input.Goals as goal
use Rattle.program_input.proofs.read_input.Goals.{After-read_depth-line, In_default}

-- the depth line's verdict
told : (c : After-read_depth-line) → c.read_depth-line.result.verdict ≡ depth_verdict c.args.input.now
told c = reply-tells c.read_depth-line.result.verdict (depth_verdict c.args.input.now) c.read_depth-line.ensures.reply

-- it has passed
depth-passed : (c : In_default) → depth_verdict c.args.input.now ≡ Passed
depth-passed c = sym (reply-tells c.read_depth-line.result.verdict (depth_verdict c.args.input.now) c.read_depth-line.ensures.reply) ∙ c.in_default.is

pub returns-in-Err : goal.returns-in-Err
unfolding input_answer record_beside
returns-in-Err c =
    let s = c.args.input.now in
    let refused = c.in-Err.is in
    let decided = depth-decides s (sym (told (goal.at.returns-in-Err c).After-read_depth-line) ∙ refused) in
    let is : c.answer.result ≡ input_answer s = c.answer.ensures ∙ rw (refused, decided, c.empty_net.ensures) in
    record { answer = is; taken = input-taken s _ _ _ is (rw decided tt); refusals = only-refusals; encoded = λ none. input-encoded (input-taken s _ _ _ is (rw decided tt) none) }

pub slice_bounds-read_sheet-count : goal.slice_bounds-read_sheet-count
slice_bounds-read_sheet-count c = omega (arith, passed-long _ (depth-passed c))

pub slice_bounds-read_sheet-start : goal.slice_bounds-read_sheet-start
slice_bounds-read_sheet-start c = omega (arith, passed-long _ (depth-passed c))

pub returns : goal.returns
unfolding input_answer
returns c =
    let s = c.args.input.now in
    let decided = sheet-decides s (depth-passed (goal.at.returns c).In_default) in
    let depth = c.read_depth-line.ensures.depth in
    let read = rw (behind-depth s) at c.read_sheet.ensures in
    let is : c.read_sheet.result ≡ input_answer s = read.answer ∙ rw (decided, depth) in
    record { answer = is; taken = input-taken s _ _ _ is (rw decided read.lists); refusals = only-refusals; encoded = λ none. input-encoded (input-taken s _ _ _ is (rw decided read.lists) none) }
