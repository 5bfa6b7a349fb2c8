-- `call_unpacked::copy_numbers` meets its contract. The loop's invariant: the first i numbers stand before what was there.

use mathlib.Core.Path.{◌≡◌, refl, ◌∙◌}
use mathlib.Core.List.{List}
use native.Mathlib.Numerals.{add-one}
use native.Mathlib.Omega.{arith}
use lib.IntN.{ℤ}
use lib.ListN.{length, length-set}
use lib.Seq.{take_all}
use Rattle.std.proofs.Common.{rules}
use Rattle.group_counts.proofs.Counted.{element-is}
use Rattle.call_unpacked.proofs.Copying.{copy-next}
use Rattle.call_unpacked.proofs.copy_numbers.Goals as goal

pub loop-i-preserved : goal.loop-i-preserved
loop-i-preserved c =
    let numbers : List ℤ = c.args.numbers.now in
    let old : List ℤ = c.args.out.now in (
      simp length-set (omega arith),
      rw (element-is numbers c.loop-i.i (search rules), add-one, c.loop-i.invariant.1) (copy-next numbers old c.loop-i.i (omega arith) (omega arith)),
    )

pub returns : goal.returns
returns c =
    let numbers : List ℤ = c.args.numbers.now in
    let e : c.loop-i.i ≡ length numbers = omega arith in
    record { counted = refl; leaves = c.loop-i.invariant.1 ∙ rw (e, take_all (length numbers) numbers (omega arith)) }
