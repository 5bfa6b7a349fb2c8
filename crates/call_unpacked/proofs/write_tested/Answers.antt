-- `call_unpacked::write_tested` meets its contract: the group is written aside, then the room and the copy.

use Prim.Native.Nat.{◌≤◌}
use mathlib.Core.Path.{◌≡◌, sym}
use native.Mathlib.Omega.{arith}
use lib.ListN.{length, take}
use lib.Seq.{length-take-le}
use Rattle.model.specs.Numbers.{numbers_of}
use Rattle.refusals.specs.Slices.{count_reply, with_count, contents_after}
use Rattle.refusals.proofs.Slices.{room-enough, room-short}
use Rattle.netlist.specs.NetOf.{net_of}
use Rattle.group_counts.proofs.Counted.{wrote-front, numbers-most}
use borrow.Author.Rules.{rules}
use Rattle.call_unpacked.proofs.write_tested.Goals as goal
use Rattle.call_unpacked.proofs.write_tested.Goals.{After-put_group-count}

pub put_group-requires : goal.put_group-requires
put_group-requires c =
    let ok = c.requires in
    let most = numbers-most _ _ _ ok.0 ok.1 ok.2 in
    (ok.0, ok.1, ok.2, omega (arith, most, c.if-out-ge5992.true))

pub returns-then-out-ge5992 : goal.returns-then-out-ge5992
unfolding count_reply with_count contents_after
returns-then-out-ge5992 c =
    let most = numbers-most _ _ c.args.group c.requires.0 c.requires.1 c.requires.2 in
    let w = c.put_group.ensures.0 in
    let v = room-enough (length (numbers_of (net_of c.args.net c.args.latches.now c.args.gates.now) c.args.depth c.args.group)) (length c.args.out.now) (omega (arith, most, c.if-out-ge5992.true, c.put_group.ensures.1, w.counted)) in
    record { answer = rw (v, w.counted); borrowed = rw v w.leaves }

pub put_group-count-requires : goal.put_group-count-requires
put_group-count-requires c =
    let ok = c.requires in
    let most = numbers-most _ _ _ ok.0 ok.1 ok.2 in
    (ok.0, ok.1, ok.2, search rules)

-- the count is within the numbers written
within : (c : After-put_group-count) → c.put_group-count.result ≤ length c.put_group-count.new.out
within c =
    let ok = c.requires in
    let most = numbers-most _ _ _ ok.0 ok.1 ok.2 in
    search rules

pub returns-then-out-count : goal.returns-then-out-count
unfolding count_reply with_count contents_after
returns-then-out-count c =
    let w = c.put_group-count.ensures.0 in
    let v = room-short (length (numbers_of (net_of c.args.net c.args.latches.now c.args.gates.now) c.args.depth c.args.group)) (length c.args.out.now) (omega (arith, c.if-out-count.true, w.counted)) in
    record { answer = rw v; borrowed = rw v }

pub slice_bounds-numbers-end : goal.slice_bounds-numbers-end
slice_bounds-numbers-end c = within (goal.at.slice_bounds-numbers-end c).After-put_group-count

pub slice_bounds-copy_numbers-end : goal.slice_bounds-copy_numbers-end
slice_bounds-copy_numbers-end c = sym (length-take-le _ _ (within (goal.at.slice_bounds-copy_numbers-end c).After-put_group-count))

pub copy_numbers-requires : goal.copy_numbers-requires
copy_numbers-requires c =
    let e : length (take c.put_group-count.result c.put_group-count.new.out) ≡ c.put_group-count.result = length-take-le _ _ (within (goal.at.copy_numbers-requires c).After-put_group-count) in
    omega (arith, c.if-out-count.false)

pub returns : goal.returns
unfolding count_reply with_count contents_after
returns c =
    let w = c.put_group-count.ensures.0 in
    let x = rw (wrote-front w) at c.copy_numbers.ensures in
    let v = room-enough (length (numbers_of (net_of c.args.net c.args.latches.now c.args.gates.now) c.args.depth c.args.group)) (length c.args.out.now) (omega (arith, c.if-out-count.false, w.counted)) in
    record { answer = rw (v, x.counted); borrowed = rw v x.leaves }
