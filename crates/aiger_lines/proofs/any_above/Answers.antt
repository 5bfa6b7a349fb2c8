-- `aiger_lines::any_above` meets its contract. The loop's invariant: the numbers that are left have one above the limit where all have.

use mathlib.Core.Path.{sym, ◌∙◌}
use native.Mathlib.Omega.{arith}
use Rattle.aiger_lines.specs.Steps.{numbers_held}
use Rattle.aiger_lines.proofs.Parts.{above-here, above-later, above-none}
use Rattle.aiger_lines.proofs.any_above.Goals as goal

pub returns-then-limit-x : goal.returns-then-limit-x
unfolding numbers_held
returns-then-limit-x c =
    let held = numbers_held c.args.numbers in
    sym (above-here c.args.limit held c.loop-x.x-index (omega arith) (omega arith)) ∙ c.loop-x.invariant

pub loop-x-preserved : goal.loop-x-preserved
unfolding numbers_held
loop-x-preserved c =
    let held = numbers_held c.args.numbers in
    sym (above-later c.args.limit held c.loop-x.x-index (omega arith) (omega arith)) ∙ c.loop-x.invariant

pub returns : goal.returns
unfolding numbers_held
returns c =
    sym (above-none c.args.limit (numbers_held c.args.numbers) c.loop-x.x-index (omega arith)) ∙ c.loop-x.invariant
