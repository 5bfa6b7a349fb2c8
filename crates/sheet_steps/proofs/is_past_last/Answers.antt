-- `sheet_steps::is_past_last` meets its contract: lines N and M are before the last in any case.

use mathlib.Core.Path.{sym}
use native.Mathlib.Omega.{arith}
use borrow.Author.Tests.{le-ltb}
use Rattle.netlist.specs.NetOf.{alone}
use Rattle.netlist.specs.Places.{control_line}
use Rattle.sheet_steps.proofs.is_past_last.Goals as goal

pub control_line-requires : goal.control_line-requires
control_line-requires c = c.requires (omega arith)

pub returns-then-place-ge3 : goal.returns-then-place-ge3
returns-then-place-ge3 c = rw c.control_line.ensures

pub returns : goal.returns
returns c = sym (le-ltb (control_line (alone c.args.net)) c.args.place (omega arith))
