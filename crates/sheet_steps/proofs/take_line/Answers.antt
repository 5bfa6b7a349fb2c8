-- `sheet_steps::take_line` meets its contract: a test that refuses is passed on; the line due is put into the record and the lists, and tested there.

use mathlib.Core.Path.{◌≡◌, sym, ◌∙◌}
use mathlib.Core.Bool.{not, ◌||◌}
use Rattle.netlist.specs.NetOf.{net_of, alone}
use Rattle.netlist.specs.Places.{line_at}
use Rattle.netlist.proofs.NetOf.{line_at-lists}
use Rattle.sheet_steps.specs.Steps.{step_net, step_verdict}
use Rattle.sheet_steps.specs.Lists.{Holds}
use Rattle.sheet_steps.proofs.Places.{room_for-due}
use Rattle.sheet_steps.proofs.Steps.{sizes_known-step, due-step, out_of_order, step-refused, step-due}
use Rattle.sheet_steps.proofs.Records.{outcome-refused, outcome-passed}
use Rattle.sheet_steps.proofs.take_line.Goals as goal
use Rattle.sheet_steps.proofs.take_line.Goals.{After-is_due, After-line_due-due, After-store-next, After-test_stored-verdict}

-- the line due, in the record with its lists
due : (c : After-line_due-due) → c.line_due-due.result ≡ line_at (net_of c.args.net c.args.latches.now c.args.gates.now) c.args.place
due c =
    c.line_due-due.ensures ∙ line_at-lists c.args.net c.args.latches.now c.args.gates.now c.args.place

-- whether the line is out of order, in the record with its lists
tested : (c : After-is_due) → (c.is_past_last.result || not c.is_due.result) ≡ out_of_order (net_of c.args.net c.args.latches.now c.args.gates.now) c.args.kind c.args.place
unfolding net_of
tested c = rw (c.is_past_last.ensures, c.is_due.ensures, c.line_due-due.ensures ∙ line_at-lists c.args.net c.args.latches.now c.args.gates.now c.args.place)

-- the line put into the record and the lists
taken : (c : After-store-next) → Holds c.store-next.result c.store-next.new.latches c.store-next.new.gates (step_net (net_of c.args.net c.args.latches.now c.args.gates.now) c.args.kind c.args.first c.args.second c.args.third c.args.empty c.args.place)
unfolding step_net
taken c = rw (c.line_due-due.ensures ∙ line_at-lists c.args.net c.args.latches.now c.args.gates.now c.args.place) at c.store-next.ensures

pub returns-then-is_past_last-is_due : goal.returns-then-is_past_last-is_due
returns-then-is_past_last-is_due c =
    let d = net_of c.args.net c.args.latches.now c.args.gates.now in
    rw c.refused.ensures
    (outcome-refused c.args.latches.now c.args.gates.now (step_net d c.args.kind c.args.first c.args.second c.args.third c.args.empty c.args.place)
    (step-refused d c.args.kind c.args.place c.args.first c.args.second c.args.third c.args.empty (sym (tested (goal.at.returns-then-is_past_last-is_due c).After-is_due) ∙ c.if-is_past_last-is_due.true)))

pub store-next-requires : goal.store-next-requires
store-next-requires c =
    (c.requires.0, rw c.line_due-due.ensures (room_for-due (alone c.args.net) c.args.place c.requires.1))

pub test_stored-verdict-requires : goal.test_stored-verdict-requires
test_stored-verdict-requires c =
    let next = c.store-next.result in
    (sizes_known-step c.args.net next c.args.latches.now c.args.gates.now _ _ c.args.kind c.args.place c.args.first c.args.second c.args.third c.args.empty (taken c) c.requires.1, c.line_due-due.ensures ∙ due-step c.args.net next c.args.latches.now c.args.gates.now _ _ c.args.kind c.args.place c.args.first c.args.second c.args.third c.args.empty (taken c))

-- the verdict on it, in the record with its lists
judged : (c : After-test_stored-verdict) →
    Holds c.store-next.result c.store-next.new.latches c.store-next.new.gates (step_net (net_of c.args.net c.args.latches.now c.args.gates.now) c.args.kind c.args.first c.args.second c.args.third c.args.empty c.args.place) →
    c.line_due-due.result ≡ line_at (net_of c.args.net c.args.latches.now c.args.gates.now) c.args.place →
    (c.is_past_last.result || not c.is_due.result) ≡ out_of_order (net_of c.args.net c.args.latches.now c.args.gates.now) c.args.kind c.args.place →
    c.test_stored-verdict.result ≡ step_verdict (net_of c.args.net c.args.latches.now c.args.gates.now) c.args.kind c.args.first c.args.second c.args.third c.args.empty c.args.place
judged c stored line order =
    let d = net_of c.args.net c.args.latches.now c.args.gates.now in
    c.test_stored-verdict.ensures
    ∙ rw (stored.net-is, line)
    (sym (step-due d c.args.kind c.args.place c.args.first c.args.second c.args.third c.args.empty (sym order ∙ c.if-is_past_last-is_due.false)))

pub returns-in-Err : goal.returns-in-Err
returns-in-Err c =
    rw c.refused-in-Err.ensures (outcome-refused _ _ _ (sym (judged (goal.at.returns-in-Err c).After-test_stored-verdict (taken (goal.at.returns-in-Err c).After-store-next) (due (goal.at.returns-in-Err c).After-line_due-due) (tested (goal.at.returns-in-Err c).After-is_due)) ∙ c.in-Err.is))

pub returns : goal.returns
returns c =
    rw c.in_default.is
    (outcome-passed _ _ _ c.store-next.result (taken (goal.at.returns c).After-store-next) (sym (judged (goal.at.returns c).After-test_stored-verdict (taken (goal.at.returns c).After-store-next) (due (goal.at.returns c).After-line_due-due) (tested (goal.at.returns c).After-is_due)) ∙ c.in_default.is))
