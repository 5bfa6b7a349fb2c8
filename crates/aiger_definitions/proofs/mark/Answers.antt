-- `aiger_definitions::mark` meets its contract.

use mathlib.Core.Path.{sym}
use borrow.Author.Tests.{lt-leb, le-leb}
use lib.Seq.{set_out}
use Rattle.aiger_definitions.specs.Blocks.{with_mark}
use Rattle.aiger_definitions.proofs.mark.Goals as goal

pub returns-then-x-marks : goal.returns-then-x-marks
unfolding with_mark
returns-then-x-marks c = rw (le-leb _ _ c.if-base-v.true)

pub returns-else-x-marks : goal.returns-else-x-marks
unfolding with_mark
returns-else-x-marks c = rw (le-leb _ _ c.if-base-v.true) (sym (set_out _ _ _ c.if-x-marks.false))

pub returns-else-base-v : goal.returns-else-base-v
unfolding with_mark
returns-else-base-v c = rw (lt-leb _ _ c.if-base-v.false)
