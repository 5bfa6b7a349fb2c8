-- `aiger_codes::put_firsts` meets its contract. The loop's invariant: x lines are read, and their first numbers are in the table.

use Prim.Native.Nat.{ℕ, ◌+◌}
use mathlib.Core.Path.{◌≡◌, refl, sym, subst}
use native.Mathlib.Omega.{arith}
use Rattle.aiger_lines.specs.Steps.{Behind}
use Rattle.aiger_codes.proofs.Filling.{firsts-none, firsts-next}
use Rattle.aiger_codes.proofs.put_firsts.Goals as goal

pub loop-x-init : goal.loop-x-init
loop-x-init c =
    let pre = c.requires in
    let here : c.args.line + 0 ≡ c.args.line = omega arith in (
      subst (λ (p : ℕ). Behind c.args.text.now p c.args.at) (sym here) pre.0.behind,
      firsts-none c.args.text.now c.args.line c.args.first c.args.table.now c.args.table.now pre.2 refl,
    )

pub loop-x-preserved : goal.loop-x-preserved
loop-x-preserved c =
    let pre = c.requires in
    let next : c.args.line + c.loop-x.x + 1 ≡ c.args.line + (c.loop-x.x + 1) = omega arith in (
      subst (λ (p : ℕ). Behind c.args.text.now p c.next_line-read.result.next) next c.next_line-read.ensures.behind,
      firsts-next c.args.text.now c.args.line c.args.first c.args.table.now c.loop-x.table c.loop-x.x c.next_line-read.result.numbers c.next_line-read.ensures.numbers-are
          (pre.0.few-numbers c.loop-x.x (omega arith)) (omega arith) c.loop-x.invariant.1,
    )
