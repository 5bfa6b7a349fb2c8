-- `invariant_check::certify_net` meets its contract: a refusal leaves everything, and else the check's answer is sent.

use native.Mathlib.Omega.{arith}
use mathlib.Core.Path.{refl, ◌∙◌}
use Rattle.refusals.specs.Slices.{contents_after}
use Rattle.refusals.proofs.Slices.{room-enough, room-short}
use Rattle.refutation_depth.specs.Certificate.{certificate_reply, scratch_after}
use Rattle.invariant_check.specs.ForeverCall.{store_need}
use lib.ListN.{length}
use Rattle.invariant_check.proofs.certify_net.Goals as goal

pub returns-then-store-need : goal.returns-then-store-need
unfolding certificate_reply contents_after store_need
returns-then-store-need c =
    let v = room-short _ _ c.if-store-need.true in
    record { answer = c.refused.ensures ∙ rw (v, c.number.ensures); store = rw v; marks = refl }

pub check_step-requires : goal.check_step-requires
unfolding store_need
check_step-requires c =
    (c.requires, omega (arith, c.if-store-need.false))

pub returns : goal.returns
unfolding contents_after scratch_after store_need
returns c =
    let v = room-enough (store_need (length c.args.invariant.now) (length c.args.requests.now) (length c.args.lemmas.now)) (length c.args.store.now) (omega (arith, c.if-store-need.false)) in
    let checked = c.check_step.ensures in
    record { answer = c.reply_of.ensures ∙ rw (v, checked.found); store = rw v checked.store; marks = rw v checked.marks }
