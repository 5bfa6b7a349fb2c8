-- `program_output::print_group` meets its contract: what the group's writer put in front of the numbers is the group.

use Prim.Native.Nat.{◌≤◌}
use mathlib.Core.Path.{◌≡◌, sym}
use native.Mathlib.Omega.{arith}
use borrow.Author.Rules.{rules}
use lib.ListN.{length, take}
use lib.Seq.{length-take-le}
use Rattle.model.specs.Numbers.{numbers_of}
use Rattle.model.proofs.Wrote.{wrote-length}
use Rattle.netlist.specs.NetOf.{net_of}
use Rattle.group_counts.proofs.Counted.{wrote-front, numbers-most}
use Rattle.program_output.proofs.Room.{text-most}
use Rattle.program_output.proofs.Pieces.{order_has-in_depth}
use Rattle.program_output.proofs.print_group.Goals as goal
use Rattle.program_output.proofs.print_group.Goals.{After-put_group-count}

pub put_group-count-requires : goal.put_group-count-requires
put_group-count-requires c =
    let p = c.requires in
    let there = order_has-in_depth _ _ _ p.2 in
    (p.0, p.1, there, omega (arith, numbers-most _ _ _ p.0 p.1 there, p.4))

-- the count is within the numbers
within : (c : After-put_group-count) → c.put_group-count.result ≤ length c.put_group-count.new.out
within c =
    let p = c.requires in
    let w = c.put_group-count.ensures in
    let most = numbers-most _ _ _ p.0 p.1 (order_has-in_depth _ _ _ p.2) in
    omega (arith, w.1, p.4, wrote-length w.0 (omega (arith, w.0.counted, w.1, p.4)))

pub slice_bounds-write_numbers-end : goal.slice_bounds-write_numbers-end
slice_bounds-write_numbers-end c = within (goal.at.slice_bounds-write_numbers-end c).After-put_group-count

pub slice_bounds-write_numbers-end-2 : goal.slice_bounds-write_numbers-end-2
slice_bounds-write_numbers-end-2 c = sym (length-take-le _ _ (within (goal.at.slice_bounds-write_numbers-end-2 c).After-put_group-count))

-- the numbers that are printed are the group's
front : (c : After-put_group-count) → take c.put_group-count.result c.put_group-count.new.out ≡ numbers_of (net_of c.args.net c.args.latches.now c.args.gates.now) c.args.depth c.args.group
front c = wrote-front c.put_group-count.ensures.0

pub write_numbers-requires : goal.write_numbers-requires
write_numbers-requires c =
    let p = c.requires in
    (p.3, rw (front (goal.at.write_numbers-requires c).After-put_group-count) (omega (arith, text-most _ _ _ p.0 p.1 p.2, p.5)))

pub returns : goal.returns
returns c =
    let p = c.requires in
    let w = rw (front (goal.at.returns c).After-put_group-count) at c.write_numbers.ensures in
    record { wrote = (w, omega (arith, w.counted, text-most _ _ _ p.0 p.1 p.2)); scratch = search rules }
