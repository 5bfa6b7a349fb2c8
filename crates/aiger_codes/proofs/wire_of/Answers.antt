-- `aiger_codes::wire_of` meets its contract. The loop's invariant: no wire before w has the variable.

use mathlib.Core.Path.{◌≡◌, sym, ◌∙◌}
use native.Mathlib.Omega.{arith}
use Rattle.aiger_codes.proofs.WireTable.{found_at}
use Rattle.aiger_codes.proofs.wire_of.Goals as goal

pub returns-then-table-at : goal.returns-then-table-at
returns-then-table-at c =
    (found_at c.args.table.now c.args.variable c.loop-w.w (omega arith) c.loop-w.invariant (λ l. omega arith), omega arith)

pub returns : goal.returns
returns c =
    let all : c.loop-w.w ≡ 601 = omega arith in
    (sym all ∙ found_at c.args.table.now c.args.variable c.loop-w.w (omega arith) c.loop-w.invariant (λ l. absurd (omega arith)), omega arith)
