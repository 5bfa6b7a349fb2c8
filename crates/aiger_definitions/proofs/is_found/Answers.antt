-- `aiger_definitions::is_found` meets its contract.

use borrow.Author.Tests.{lt-leb, le-leb, le-ltb, lt-ltb}
use Rattle.aiger_definitions.specs.Blocks.{is_found}
use Rattle.aiger_definitions.proofs.is_found.Goals as goal

pub returns-then-v-base : goal.returns-then-v-base
unfolding is_found
returns-then-v-base c = rw (lt-leb _ _ c.if-v-base.true)

pub returns-then-x-marks : goal.returns-then-x-marks
unfolding is_found
returns-then-x-marks c = rw (le-leb _ _ c.if-v-base.false, lt-ltb _ _ c.if-x-marks.true)

pub returns-else-x-marks : goal.returns-else-x-marks
unfolding is_found
returns-else-x-marks c = rw (le-leb _ _ c.if-v-base.false, le-ltb _ _ c.if-x-marks.false)
