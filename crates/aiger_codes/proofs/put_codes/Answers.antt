-- `aiger_codes::put_codes` meets its contract. The loop's invariant: x lines are read, and their codes are in the list.

use Prim.Native.Nat.{ℕ, ◌+◌}
use mathlib.Core.Path.{◌≡◌, subst}
use native.Mathlib.Omega.{arith}
use Rattle.aiger_lines.specs.Steps.{Behind}
use Rattle.aiger_codes.proofs.Filling.{codes-next}
use Rattle.aiger_codes.proofs.put_codes.Goals as goal

pub loop-x-preserved : goal.loop-x-preserved
loop-x-preserved c =
    let pre = c.requires in
    let next : c.args.line + c.loop-x.x + 1 ≡ c.args.line + (c.loop-x.x + 1) = omega arith in (
      subst (λ (p : ℕ). Behind c.args.text.now p c.next_line-read.result.next) next c.next_line-read.ensures.behind,
      rw c.put_numbers.ensures
          (codes-next c.args.text.now c.args.line c.args.table.now c.loop-x.list c.loop-x.x c.next_line-read.result.numbers _ _ c.next_line-read.ensures.numbers-are
          (pre.0.few-numbers c.loop-x.x (omega arith)) (omega arith) c.code_of-left.ensures c.code_of-right.ensures c.loop-x.invariant.1),
    )
