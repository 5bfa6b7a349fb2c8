-- `sheet_lines::test_depth` meets its contract: form, then value.

use native.Mathlib.Omega.{arith}
use borrow.Author.Tests.{lt-ltb, le-ltb}
use Rattle.refusals.specs.Tests.{◌then◌}
use Rattle.sheet_lines.specs.Depth.{field_verdict}
use Rattle.sheet_lines.proofs.test_depth.Goals as goal

pub returns-then-depth-le255 : goal.returns-then-depth-le255
unfolding field_verdict ◌then◌
returns-then-depth-le255 c = rw (c.in-Filled.is, le-ltb 255 c.in-Filled.depth (omega arith))

pub returns-in-Empty : goal.returns-in-Empty
unfolding field_verdict ◌then◌
returns-in-Empty c = rw c.in-Empty.is

pub returns-else-depth-le255 : goal.returns-else-depth-le255
unfolding field_verdict ◌then◌
returns-else-depth-le255 c = rw (c.in-Filled.is, lt-ltb 255 c.in-Filled.depth (omega arith))

pub returns-in-Misprinted : goal.returns-in-Misprinted
unfolding field_verdict ◌then◌
returns-in-Misprinted c = rw c.in-Misprinted.is
