-- `call_unpacked::test_depth` meets its contract: the first test that refuses answers.

use mathlib.Core.Path.{sym}
use borrow.Author.Tests.{le-ltb, lt-ltb}
use Rattle.std.proofs.lemmas.Result.{err_from_is_err_and}
use Rattle.refusals.specs.Tests.{◌then◌}
use Rattle.call_unpacked.specs.Calls.{test_depth}
use Rattle.call_unpacked.proofs.test_depth.Goals as goal

pub returns-in_err-test_record : goal.returns-in_err-test_record
unfolding ◌then◌
returns-in_err-test_record c =
    let p = err_from_is_err_and c.from_residual.result c.from_residual.ensures.1 in
    rw (p.1, p.2, sym c.in_err-test_record.ensures)

pub returns-then-depth-gt255 : goal.returns-then-depth-gt255
unfolding ◌then◌ test_depth
returns-then-depth-gt255 c = rw (sym c.in_ok-test_record.ensures, lt-ltb 255 _ c.if-depth-gt255.true)

pub returns : goal.returns
unfolding ◌then◌ test_depth
returns c = rw (sym c.in_ok-test_record.ensures, le-ltb 255 _ c.if-depth-gt255.false)
