-- `group_counts::count_ends` meets its contract. The loop has counted the end marks passed.

use mathlib.Core.Path.{sym, ◌∙◌, ap}
use mathlib.Core.List.{List}
use native.Mathlib.Omega.{arith}
use lib.Dec.{eqb}
use lib.IntN.{ℤ}
use lib.Seq.{take_all}
use Rattle.std.specs.Prelude.{nat_abs, count_by}
use Rattle.group_counts.proofs.Counted.{ends-counted}
use Rattle.group_counts.proofs.count_ends.Goals as goal

pub returns : goal.returns
returns c =
    let numbers : List ℤ = c.args.numbers.now in (
      c.loop-z.invariant.0 ∙ ap (count_by (λ (z : ℤ). eqb (nat_abs z) 0)) (take_all c.loop-z.z-index numbers (omega arith)) ∙ sym (ends-counted numbers),
      omega (arith, c.loop-z.invariant.1),
    )
