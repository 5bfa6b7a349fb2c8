-- `call_position::test_frame` meets its contract.

use borrow.Author.Tests.{le-ltb, lt-ltb}
use Rattle.refusals.specs.Tests.{◌then◌}
use Rattle.call_position.specs.Positions.{test_frame}
use Rattle.call_position.proofs.test_frame.Goals as goal

pub returns-then-position : goal.returns-then-position
unfolding test_frame ◌then◌
returns-then-position c = let p = c.args.position in rw (lt-ltb p.depth p.frame c.if-position.true)

pub returns : goal.returns
unfolding test_frame ◌then◌
returns c = let p = c.args.position in rw (le-ltb p.depth p.frame c.if-position.false) c.test_base.ensures
