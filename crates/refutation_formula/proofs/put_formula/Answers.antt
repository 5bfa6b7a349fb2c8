-- `refutation_formula::put_formula` meets its contract. The loop's invariant: the groups before the one that is next are put, and with as many numbers as
-- a group has at most for each that remains, the count fits.

use Prim.Native.Nat.{◌≤◌}
use mathlib.Core.Path.{◌≡◌, ◌∙◌}
use mathlib.Core.List.{List, [], ◌∷◌, ◌++◌}
use native.Mathlib.Omega.{arith}
use borrow.Author.Rules.{rules}
use Rattle.std.specs.Prelude.{Some}
use Rattle.model.specs.Netlist.{ports}
use Rattle.model.specs.Groups.{group_order}
use Rattle.model.specs.declared.Group.{Group}
use Rattle.netlist.specs.NetOf.{net_of, alone}
use Rattle.netlist.proofs.NetOf.{sizes-lists}
use Rattle.group_order.specs.Next.{first_group, remaining_after, remaining_from}
use Rattle.group_order.proofs.Remaining.{first-remaining}
use Rattle.refutation_formula.proofs.SoFar.{SoFar, nothing_yet, next-in_depth, one_more, all-put}
use Rattle.refutation_formula.proofs.put_formula.Goals as goal
use Rattle.refutation_formula.proofs.put_formula.Goals.{After-next_group-next, In-Some}

pub port_count-ports-requires : goal.port_count-ports-requires
port_count-ports-requires c = sizes-lists c.args.net c.args.latches.now c.args.gates.now [] [] c.requires.0.limits.sizes

pub loop-next-init : goal.loop-next-init
loop-next-init c =
    let sizes = sizes-lists c.args.net c.args.latches.now c.args.gates.now [] [] c.requires.0.limits.sizes in
    let ports-most : ports (alone c.args.net) ≤ 2 = omega (arith, sizes.kind_fits) in (
      search rules,
      nothing_yet _ _ _ _ (c.first_group-next.ensures _),
      omega (arith, first-remaining (ports (alone c.args.net)) c.args.depth c.first_group-next.result ports-most c.requires.1 (c.first_group-next.ensures _)),
    )

-- what is put so far, and the group that is next
so_far : (c : In-Some) →
    SoFar (net_of c.args.net c.args.latches.now c.args.gates.now) c.args.depth c.args.out.now c.loop-next.out c.loop-next.at
    (Some c.in-Some.group)
so_far c = rw c.in-Some.is at c.loop-next.invariant.1

pub slice_bounds-put_where_room-count : goal.slice_bounds-put_where_room-count
slice_bounds-put_where_room-count c = omega (arith, c.smaller-from.ensures.0)

pub slice_bounds-put_where_room-start : goal.slice_bounds-put_where_room-start
slice_bounds-put_where_room-start c = omega (arith, c.smaller-from.ensures.0)

pub put_where_room-at-requires : goal.put_where_room-at-requires
put_where_room-at-requires c =
    let p = c.requires in
    (p.0, omega (arith, p.1), next-in_depth (so_far (goal.at.put_where_room-at-requires c).In-Some), omega (arith, c.loop-next.invariant.0))

pub overflow_add-at : goal.overflow_add-at
overflow_add-at c = omega (arith, c.loop-next.invariant.2, c.put_where_room-at.ensures.put_where_room.1)

pub next_group-next-requires : goal.next_group-next-requires
next_group-next-requires c = omega (arith, c.port_count-ports.ensures)

-- what follows, with the netlist's ports
followed : (c : After-next_group-next) →
    let due = c.in-Some.group in
    ((xs ys : List Group) → group_order (ports (alone c.args.net)) c.args.depth ≡ xs ++ due ∷ ys → c.next_group-next.result ≡ first_group ys)
    × (remaining_from (ports (alone c.args.net)) c.args.depth c.next_group-next.result
    ≤ remaining_after (ports (alone c.args.net)) c.args.depth due)
followed c =
    let e = rw c.port_count-ports.ensures at c.next_group-next.ensures in
    (e.follows, e.ends)

pub loop-next-smaller : goal.loop-next-smaller
loop-next-smaller c = rw c.in-Some.is (omega (arith, (followed c).1))

pub loop-next-preserved : goal.loop-next-preserved
unfolding net_of
loop-next-preserved c = (
  c.put_where_room-at.auto.numbers ∙ c.loop-next.invariant.0,
  one_more (so_far (goal.at.loop-next-preserved c).In-Some) c.put_where_room-at.new.out c.smaller-from.result c.put_where_room-at.result c.next_group-next.result c.smaller-from.ensures.0 c.smaller-from.ensures.1 c.put_where_room-at.ensures.put_where_room.0 (followed c).0,
  omega (arith, rw c.in-Some.is at c.loop-next.invariant.2, c.put_where_room-at.ensures.put_where_room.1, (followed c).1),
)

pub returns : goal.returns
returns c =
    (all-put (rw c.in_default.is at c.loop-next.invariant.1), omega (arith, c.loop-next.invariant.2))
