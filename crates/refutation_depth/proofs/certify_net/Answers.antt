-- `refutation_depth::certify_net` meets its contract: a refusal leaves everything, and else the check's answer is sent.

use mathlib.Core.Path.{refl, sym, ◌∙◌}
use Rattle.refusals.specs.Slices.{contents_after}
use Rattle.refutation_depth.specs.Certificate.{certificate_reply, scratch_after}
use Rattle.refutation_depth.proofs.Certificate.{both-shown}
use Rattle.refutation_depth.proofs.certify_net.Goals as goal

pub returns-in-Err : goal.returns-in-Err
unfolding certificate_reply contents_after
returns-in-Err c = let v = sym c.test_room.ensures ∙ c.in-Err.is in
    record { answer = c.refused.ensures ∙ rw (v, c.number.ensures); store = rw v; marks = refl }

pub check_depth-requires : goal.check_depth-requires
check_depth-requires c = let shown = both-shown _ _ _ _ _ (sym c.test_room.ensures ∙ c.in_default.is) in
    (c.requires.0, c.requires.1, shown.0, shown.1)

pub returns : goal.returns
unfolding contents_after scratch_after
returns c = let v = sym c.test_room.ensures ∙ c.in_default.is in
    let checked = c.check_depth.ensures in
    record { answer = c.reply_of.ensures ∙ rw (v, checked.found); store = rw v checked.store; marks = rw v checked.marks }
