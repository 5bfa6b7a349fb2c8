-- `aiger_ordered::file_variable` meets its contract: the tests put the wire between the first wires of two kinds.

use mathlib.Core.Path.{sym}
use native.Mathlib.Omega.{arith}
use Rattle.aiger_ordered.proofs.OrderedAig.{input-kept, latch-moved, read-moved, gate-kept}
use Rattle.aiger_ordered.proofs.file_variable.Goals as goal

pub returns-then-w-latch : goal.returns-then-w-latch
returns-then-w-latch c = (sym (input-kept c.args.order c.args.wire.0 (omega arith)), omega arith)

pub returns-then-w-latch-2 : goal.returns-then-w-latch-2
returns-then-w-latch-2 c = (sym (latch-moved c.args.order c.args.wire.0 (omega arith) (omega arith)), omega arith)

pub returns-then-w-latch-3 : goal.returns-then-w-latch-3
returns-then-w-latch-3 c = (sym (read-moved c.args.order c.args.wire.0 (omega arith) (omega arith)), omega arith)

pub returns : goal.returns
returns c = (sym (gate-kept c.args.order c.args.wire.0 (omega arith)), omega arith)
