-- `call_position::test_numbering` meets its contract: the first test that refuses answers.

use mathlib.Core.Path.{sym}
use borrow.Author.Tests.{le-ltb, lt-ltb}
use Rattle.std.proofs.lemmas.Result.{err_from_is_err_and}
use Rattle.refusals.specs.Tests.{◌then◌}
use Rattle.call_unpacked.specs.Calls.{test_depth}
use Rattle.call_position.specs.Literals.{numbering_verdict}
use Rattle.call_position.proofs.test_numbering.Goals as goal

pub returns-in_err-test_sizes : goal.returns-in_err-test_sizes
unfolding numbering_verdict ◌then◌
returns-in_err-test_sizes c =
    let p = err_from_is_err_and c.from_residual.result c.from_residual.ensures.1 in
    rw (p.1, p.2, sym c.in_err-test_sizes.ensures)

pub returns-then-depth-gt255 : goal.returns-then-depth-gt255
unfolding numbering_verdict ◌then◌ test_depth
returns-then-depth-gt255 c =
    rw (sym c.in_ok-test_sizes.ensures, lt-ltb 255 _ c.if-depth-gt255.true)

pub returns : goal.returns
unfolding numbering_verdict ◌then◌ test_depth
returns c =
    rw (sym c.in_ok-test_sizes.ensures, le-ltb 255 _ c.if-depth-gt255.false)
