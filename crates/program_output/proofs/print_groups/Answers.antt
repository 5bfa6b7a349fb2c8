-- `program_output::print_groups` meets its contract. The loop's invariant: wherever the first group stands, what is printed is the text of
-- the groups from it on, `next` comes after them, and nothing is printed yet or fewer groups remain.

use Prim.Native.Nat.{ℕ, ◌+◌, ◌-◌, ◌≤◌, ◌<◌}
use mathlib.Core.Path.{◌≡◌, refl, ◌∙◌, ap}
use mathlib.Core.List.{List, [], ◌∷◌, ◌++◌}
use mathlib.Core.Logic.{inl, inr}
use native.Mathlib.Omega.{arith}
use borrow.Rule.Slice.PartMut.{mid_len, same_len_mid}
use lib.ListN.{length}
use Rattle.std.specs.Prelude.{Option, Some}
use Rattle.model.specs.Netlist.{ports}
use Rattle.model.specs.Groups.{group_order}
use Rattle.model.specs.declared.Group.{Group}
use Rattle.netlist.specs.NetOf.{net_of, alone}
use Rattle.netlist.proofs.NetOf.{sizes-lists}
use Rattle.group_order.specs.Next.{first_group, remaining_after, remaining_from}
use Rattle.program_output.proofs.Pieces.{SoFar, nothing_yet, order_has-due, one_more, piece-continues}
use Rattle.program_output.proofs.print_groups.Invariants.{Begun}
use Rattle.program_output.proofs.print_groups.Goals as goal
use Rattle.program_output.proofs.print_groups.Goals.{After-next_group-next, In-Some}

module _ (ports k bytes : ℕ) (next next₀ : Option Group) where
  not_more : Begun ports k bytes next next₀ → remaining_from ports k next ≤ remaining_from ports k next₀
  not_more (inl e) = let same : remaining_from ports k next ≡ remaining_from ports k next₀ = ap (remaining_from ports k) e.1 in omega arith
  not_more (inr l) = omega (arith, l)

  fewer : Begun ports k bytes next next₀ → 0 < bytes → remaining_from ports k next < remaining_from ports k next₀
  fewer (inl e) h = absurd (omega (arith, e.0, h))
  fewer (inr l) h = l

pub port_count-ports-requires : goal.port_count-ports-requires
port_count-ports-requires c =
    sizes-lists c.args.net c.args.latches.now c.args.gates.now [] [] c.requires.0.limits.sizes

pub loop-bytes-init : goal.loop-bytes-init
loop-bytes-init c = (omega arith, refl, refl, λ before from o h. nothing_yet _ _ _ _ from h, inl (refl, refl))

-- what is printed so far, of the groups from the first on
so_far : (c : In-Some) →
    SoFar (net_of c.args.net c.args.latches.now c.args.gates.now) c.args.depth
    c.args.text.now c.loop-bytes.text c.loop-bytes.bytes (Some c.in-Some.due) (c.args.group ∷ c.requires.2.behind)
so_far c =
    let has = c.requires.2 in
    rw c.in-Some.is at
    (c.loop-bytes.invariant.3 has.before (c.args.group ∷ has.behind) has.order refl)

-- the room that remains
room : (c : In-Some) →
    c.loop-bytes.bytes + 71904 ≤ length c.loop-bytes.text
room c =
    omega (arith, c.loop-bytes-test.true, c.loop-bytes.invariant.1, c.requires.5)

pub slice_bounds-print_group-count : goal.slice_bounds-print_group-count
slice_bounds-print_group-count c = omega (arith, room c)

pub slice_bounds-print_group-start : goal.slice_bounds-print_group-start
slice_bounds-print_group-start c = omega (arith, room c)

pub print_group-bytes-requires : goal.print_group-bytes-requires
print_group-bytes-requires c =
    let p = c.requires in
    let text : List ℕ = c.loop-bytes.text in (
      p.0,
      p.1,
      order_has-due p.2.before (c.args.group ∷ p.2.behind) p.2.order (so_far (goal.at.print_group-bytes-requires c).In-Some),
      p.3,
      omega (arith, c.loop-bytes.invariant.2, p.4),
      rw (mid_len c.loop-bytes.bytes (length text) text (omega arith)) (omega (arith, room (goal.at.print_group-bytes-requires c).In-Some)),
    )

pub overflow_add-bytes : goal.overflow_add-bytes
overflow_add-bytes c =
    omega (arith, room (goal.at.overflow_add-bytes c).In-Some, c.print_group-bytes.ensures.wrote.1)

pub next_group-next-requires : goal.next_group-next-requires
next_group-next-requires c = omega (arith, c.port_count-ports.ensures)

-- what follows, with the netlist's ports
followed : (c : After-next_group-next) →
    let due = c.in-Some.due in
    ((xs ys : List Group) → group_order (ports (alone c.args.net)) c.args.depth ≡ xs ++ due ∷ ys → c.next_group-next.result ≡ first_group ys)
    × (remaining_from (ports (alone c.args.net)) c.args.depth c.next_group-next.result
    ≤ remaining_after (ports (alone c.args.net)) c.args.depth due)
followed c =
    let e = rw c.port_count-ports.ensures at c.next_group-next.ensures in
    (e.follows, e.ends)

pub loop-bytes-smaller : goal.loop-bytes-smaller
unfolding net_of
loop-bytes-smaller c =
    rw c.in-Some.is (omega (arith, (followed c).1))

pub loop-bytes-preserved : goal.loop-bytes-preserved
unfolding net_of
loop-bytes-preserved c =
    let same = same_len_mid c.loop-bytes.bytes (length c.loop-bytes.text - c.loop-bytes.bytes) c.loop-bytes.text c.print_group-bytes.new.text c.print_group-bytes.auto.text in (
      omega (arith, room (goal.at.loop-bytes-preserved c).In-Some, c.print_group-bytes.ensures.wrote.1, same),
      same ∙ c.loop-bytes.invariant.1,
      c.print_group-bytes.auto.numbers ∙ c.loop-bytes.invariant.2,
      λ before from o h.
          one_more before from o (rw c.in-Some.is at (c.loop-bytes.invariant.3 before from o h)) c.print_group-bytes.new.text c.print_group-bytes.result
          c.next_group-next.result c.print_group-bytes.ensures.wrote.0 (followed c).0,
      inr (omega (
        arith,
        (followed c).1,
        rw c.in-Some.is at (not_more (ports (alone c.args.net)) c.args.depth c.loop-bytes.bytes c.loop-bytes.next (Some c.args.group) c.loop-bytes.invariant.4),
      )),
    )

pub returns-after-loop-bytes : goal.returns-after-loop-bytes
unfolding net_of
returns-after-loop-bytes c =
    record { text = λ text d. piece-continues d (c.loop-bytes.invariant.3 d.before d.groups d.order d.next-is); ends = omega (arith, fewer (ports (alone c.args.net)) c.args.depth c.loop-bytes.bytes c.loop-bytes.next (Some c.args.group) c.loop-bytes.invariant.4 (omega arith)); within = omega (arith, c.loop-bytes.invariant.0, c.loop-bytes.invariant.1); scratch = c.loop-bytes.invariant.2 }

pub returns-in_default : goal.returns-in_default
unfolding net_of
returns-in_default c =
    rw c.in_default.is (record { text = λ text d. piece-continues d (rw c.in_default.is at (c.loop-bytes.invariant.3 d.before d.groups d.order d.next-is)); ends = omega arith; within = omega (arith, c.loop-bytes.invariant.0, c.loop-bytes.invariant.1); scratch = c.loop-bytes.invariant.2 })
