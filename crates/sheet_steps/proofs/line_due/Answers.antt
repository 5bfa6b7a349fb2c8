-- `sheet_steps::line_due` meets its contract: the first two lines are due in any case.

use native.Mathlib.Omega.{arith}
use mathlib.Core.Path.{sym}
use Rattle.netlist.specs.NetOf.{alone}
use Rattle.netlist.proofs.Places.{at-sizes, at-memory}
use Rattle.sheet_steps.proofs.line_due.Goals as goal

pub returns-then-place-le1 : goal.returns-then-place-le1
returns-then-place-le1 c = sym (at-sizes (alone c.args.net) c.args.place (omega arith))

pub returns-then-place-le2 : goal.returns-then-place-le2
returns-then-place-le2 c = sym (at-memory (alone c.args.net) c.args.place (omega arith))

pub line_at-requires : goal.line_at-requires
line_at-requires c = c.requires (omega arith)
