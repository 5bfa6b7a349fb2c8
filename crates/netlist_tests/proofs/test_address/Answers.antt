-- `netlist_tests::test_address` meets its contract: the first tied code decides.

use borrow.Author.Tests.{lt-ltb, le-ltb}
use Rattle.netlist_tests.specs.OnePort.{test_address}
use Rattle.netlist_tests.proofs.test_address.Goals as goal

pub returns-then-t-m : goal.returns-then-t-m
unfolding test_address
returns-then-t-m c = rw (← c.first_tie-t.ensures, lt-ltb _ _ c.if-t-m.true)

pub returns : goal.returns
unfolding test_address
returns c = rw (← c.first_tie-t.ensures, le-ltb _ _ c.if-t-m.false)
