-- `refutation_formula::put_where_room` meets its contract: the group is written aside, and copied where there is room.

use Prim.Native.Nat.{◌≤◌}
use mathlib.Core.Path.{◌≡◌, sym}
use native.Mathlib.Omega.{arith}
use borrow.Author.Rules.{rules}
use lib.ListN.{length, take}
use lib.Seq.{length-take-le}
use Rattle.model.proofs.Wrote.{wrote-length}
use Rattle.group_counts.proofs.Counted.{wrote-front, numbers-most}
use Rattle.refutation_formula.proofs.WhereRoom.{put-wrote, put-not}
use Rattle.refutation_formula.proofs.put_where_room.Goals as goal
use Rattle.refutation_formula.proofs.put_where_room.Goals.{After-put_group-count}

pub put_group-count-requires : goal.put_group-count-requires
put_group-count-requires c =
    let p = c.requires in
    (p.0, p.1, p.2, omega (arith, numbers-most _ _ _ p.0 p.1 p.2, p.3))

-- the count is within the numbers
within : (c : After-put_group-count) → c.put_group-count.result ≤ length c.put_group-count.new.out
within c =
    let p = c.requires in
    let w = c.put_group-count.ensures in
    let most = numbers-most _ _ _ p.0 p.1 p.2 in
    omega (arith, w.1, p.3, wrote-length w.0 (omega (arith, w.0.counted, w.1, p.3)))

pub slice_bounds-copy_numbers-end : goal.slice_bounds-copy_numbers-end
slice_bounds-copy_numbers-end c = within (goal.at.slice_bounds-copy_numbers-end c).After-put_group-count

pub slice_bounds-copy_numbers-end-then-count-out : goal.slice_bounds-copy_numbers-end-then-count-out
slice_bounds-copy_numbers-end-then-count-out c = sym (length-take-le _ _ (within (goal.at.slice_bounds-copy_numbers-end-then-count-out c).After-put_group-count))

pub copy_numbers-requires : goal.copy_numbers-requires
copy_numbers-requires c =
    let e : length (take c.put_group-count.result c.put_group-count.new.out) ≡ c.put_group-count.result = length-take-le _ _ (within (goal.at.copy_numbers-requires c).After-put_group-count) in
    omega (arith, c.if-count-out.true)

pub returns-then-count-out : goal.returns-then-count-out
returns-then-count-out c =
    let p = c.requires in
    let w = c.put_group-count.ensures in
    let most = numbers-most _ _ _ p.0 p.1 p.2 in
    let x = rw (wrote-front w.0) at c.copy_numbers.ensures in
    record { put_where_room = (put-wrote _ w.0.counted (omega (arith, c.if-count-out.true)) x, omega (arith, w.1, most)); scratch = search rules }

pub returns-else-count-out : goal.returns-else-count-out
returns-else-count-out c =
    let p = c.requires in
    let w = c.put_group-count.ensures in
    let most = numbers-most _ _ _ p.0 p.1 p.2 in
    record { put_where_room = (put-not _ _ _ w.0.counted (omega (arith, c.if-count-out.false)), omega (arith, w.1, most)); scratch = search rules }
