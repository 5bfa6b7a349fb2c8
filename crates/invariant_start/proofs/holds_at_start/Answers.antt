-- `invariant_start::holds_at_start` meets its contract. What is left of the test says what the whole says.

use mathlib.Core.Path.{sym, ◌∙◌}
use native.Mathlib.Omega.{arith}
use lib.IntN.{pos}
use lib.ListN.{get_or}
use Rattle.decimal.proofs.Signed.{read_back}
use Rattle.invariant_start.proofs.Progress.{left-start, left_at, left-past, left-failed, progress-most}
use Rattle.invariant_start.proofs.holds_at_start.Goals as goal

pub loop-number-init : goal.loop-number-init
loop-number-init c = (omega arith, omega arith, left-start _ _)

pub returns-then-state-eq0 : goal.returns-then-state-eq0
returns-then-state-eq0 c =
    let zs = c.args.invariant.now in
    let z = get_or zs c.loop-number.number-index (pos 0) in
    let is = rw (read_back z (record { sfits = omega arith })) at c.next-state.ensures in
    let inv = c.loop-number.invariant in
    sym (sym inv.2 ∙ left_at _ c.loop-number.state zs c.loop-number.number-index inv.0 inv.1 c.loop-number-test.true ∙ rw (sym is ∙ c.if-state-eq0.true) (left-failed _ _))

pub loop-number-preserved : goal.loop-number-preserved
loop-number-preserved c =
    let zs = c.args.invariant.now in
    let z = get_or zs c.loop-number.number-index (pos 0) in
    let is = rw (read_back z (record { sfits = omega arith })) at c.next-state.ensures in
    let inv = c.loop-number.invariant in
    (omega (arith, c.if-state-eq0.false), rw is (progress-most _ c.loop-number.state z inv.1), rw is (sym (left_at _ c.loop-number.state zs c.loop-number.number-index inv.0 inv.1 c.loop-number-test.true) ∙ inv.2))

pub returns : goal.returns
returns c =
    let inv = c.loop-number.invariant in
    sym (left-past _ c.loop-number.state c.args.invariant.now c.loop-number.number-index inv.0 (omega arith)) ∙ inv.2
