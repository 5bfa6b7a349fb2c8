-- `call_unpacked::write_group` meets its contract: the tests up to 8, then what is left of the call.

use mathlib.Core.Path.{sym}
use lib.ListN.{length}
use Rattle.std.proofs.lemmas.Result.{err_from_is_err_and}
use Rattle.refusals.specs.Tests.{◌then◌}
use Rattle.refusals.specs.Slices.{count_reply, with_count, contents_after}
use Rattle.call_unpacked.specs.Calls.{group_sent, group_leaves}
use Rattle.call_unpacked.proofs.Calls.{group-shown, group-tested}
use Rattle.call_unpacked.proofs.write_group.Goals as goal

pub returns-in_err-test_group : goal.returns-in_err-test_group
unfolding count_reply group_sent group_leaves with_count contents_after ◌then◌
returns-in_err-test_group c =
    let p = err_from_is_err_and c.from_residual.result c.from_residual.ensures.1 in
    let v = group-tested _ _ _ _ _ (length c.args.out.now) (c.in_err-test_group.ensures) in
    record { answer = rw (p.1, p.2, v); borrowed = rw v }

pub write_tested-requires : goal.write_tested-requires
write_tested-requires c = group-shown _ _ _ _ _ (sym c.in_ok-test_group.ensures)

pub returns : goal.returns
unfolding group_sent group_leaves ◌then◌
returns c =
    let v = group-tested _ _ _ _ _ (length c.args.out.now) (c.in_ok-test_group.ensures) in
    record { answer = rw v c.write_tested.ensures.answer; borrowed = rw v c.write_tested.ensures.borrowed }
