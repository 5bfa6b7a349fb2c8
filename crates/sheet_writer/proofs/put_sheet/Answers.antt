-- `sheet_writer::put_sheet` meets its contract. The loop has written the lines up to the place.

use Prim.Native.Nat.{ℕ, ◌+◌, ◌-◌, ◌≤◌}
use mathlib.Core.Path.{◌≡◌, refl, ◌∙◌}
use mathlib.Core.List.{List}
use native.Mathlib.Numerals.{add-one}
use native.Mathlib.Omega.{arith}
use borrow.Rule.Slice.PartMut.{mid_len, same_len_mid}
use lib.ListN.{length}
use Rattle.model.specs.Gather.{gather}
use Rattle.model.proofs.Wrote.{wrote_then}
use Rattle.netlist.specs.NetOf.{net_of, alone}
use Rattle.netlist.specs.Places.{line_at}
use Rattle.call_unpacked.proofs.Calls.{lines-most}
use Rattle.sheet_text.proofs.Placed.{placed}
use Rattle.sheet_writer.proofs.put_sheet.Invariants.{line_behind}
use Rattle.sheet_writer.proofs.put_sheet.Goals as goal
use Rattle.sheet_writer.proofs.put_sheet.Goals.{In-loop-place}

pub loop-place-init : goal.loop-place-init
unfolding gather
loop-place-init c = (refl, omega arith, record { counted = refl; leaves = refl })

-- there is room for one line more
room : (c : In-loop-place) → c.loop-place.at + 32 ≤ length c.loop-place.out
room c =
    omega (arith, c.loop-place.invariant.0, c.loop-place.invariant.1, c.control_line-last.ensures, c.requires.1)

pub slice_bounds-put_line_at-count : goal.slice_bounds-put_line_at-count
slice_bounds-put_line_at-count c = omega (arith, room c)

pub slice_bounds-put_line_at-start : goal.slice_bounds-put_line_at-start
slice_bounds-put_line_at-start c = omega (arith, room c)

pub overflow_add-place : goal.overflow_add-place
overflow_add-place c =
    omega (arith, c.control_line-last.ensures, lines-most (alone c.args.net) c.requires.0)

pub put_line_at-at-requires : goal.put_line_at-at-requires
put_line_at-at-requires c =
    let out : List ℕ = c.loop-place.out in
    (c.requires.0, rw (mid_len c.loop-place.at (length out) out (omega (arith, room (goal.at.put_line_at-at-requires c).In-loop-place))) (omega (arith, room (goal.at.put_line_at-at-requires c).In-loop-place)))

pub overflow_add-at : goal.overflow_add-at
overflow_add-at c = omega (arith, room (goal.at.overflow_add-at c).In-loop-place, c.put_line_at-at.ensures.1)

pub loop-place-preserved : goal.loop-place-preserved
unfolding gather
loop-place-preserved c =
    let line = line_behind c.args.net c.args.latches.now c.args.gates.now in (
      same_len_mid c.loop-place.at (length c.loop-place.out - c.loop-place.at) c.loop-place.out c.put_line_at-at.new.out c.put_line_at-at.auto.out ∙ c.loop-place.invariant.0,
      omega (arith, c.loop-place.invariant.1, c.put_line_at-at.ensures.1),
      rw add-one
          (wrote_then (gather c.loop-place.place line) (line c.loop-place.place) c.args.out.now c.loop-place.out c.put_line_at-at.new.out c.loop-place.at c.put_line_at-at.result c.loop-place.invariant.2 c.put_line_at-at.ensures.0),
    )

pub returns : goal.returns
unfolding net_of line_at
returns c =
    let all : c.loop-place.place ≡ c.control_line-last.result = omega arith in
    rw (placed (net_of c.args.net c.args.latches.now c.args.gates.now) (omega (arith, c.requires.0.kind_fits)))
    (rw (all, c.control_line-last.ensures) at c.loop-place.invariant.2)
