-- `group_counts::count_group` meets its contract: what the group's writer put in front of the numbers is the group.

use Prim.Native.Nat.{◌≤◌}
use mathlib.Core.Path.{◌≡◌, ◌∙◌, ap}
use mathlib.Core.List.{List}
use native.Mathlib.Omega.{arith}
use lib.IntN.{ℤ}
use lib.ListN.{length, take}
use lib.Seq.{length-take-le}
use Rattle.model.specs.Numbers.{clauses_in}
use Rattle.model.proofs.Wrote.{wrote-length}
use Rattle.group_counts.proofs.Counted.{wrote-front, numbers-most}
use Rattle.group_counts.proofs.count_group.Goals as goal
use Rattle.group_counts.proofs.count_group.Goals.{After-count_ends}

pub put_group-count-requires : goal.put_group-count-requires
put_group-count-requires c =
    let p = c.requires in (p.0, p.1, p.2, omega (arith, numbers-most _ _ _ p.0 p.1 p.2, p.3))

-- and so are the clauses in them
most : (c : After-count_ends) → c.count_ends.result ≤ 5992
most c =
    let p = c.requires in
    let w = c.put_group-count.ensures in
    let most = numbers-most _ _ _ p.0 p.1 p.2 in
    let fits : c.put_group-count.result ≤ length c.put_group-count.new.out = omega (arith, w.1, p.3, wrote-length w.0 (omega (arith, w.0.counted, w.1, p.3))) in
    let few : c.put_group-count.result ≤ 5992 = omega (arith, w.1) in
    let e : length (take c.put_group-count.result c.put_group-count.new.out) ≡ c.put_group-count.result = length-take-le _ _ fits in
    omega (arith, c.count_ends.ensures.1, few)

pub overflow_cast-result : goal.overflow_cast-result
overflow_cast-result c = omega (arith, most c)

pub returns-clause-value : goal.returns-clause-value
returns-clause-value c =
    let w = c.put_group-count.ensures.0 in
    (c.count_ends.ensures.0 ∙ ap (λ (zs : List ℤ). length (clauses_in zs)) (wrote-front w), most c)
