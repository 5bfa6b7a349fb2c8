-- `frames::print_clauses` meets its contract. The loop's invariant: what was written is the output up to the group that comes next, whose text and
-- that of the groups behind it is due. Each piece leaves fewer groups, so the loop ends; and no piece is longer than its buffer, so the count fits.

use Prim.Native.Nat.{◌≤◌}
use mathlib.Core.Path.{◌≡◌, sym, subst}
use native.Mathlib.Omega.{arith}
use borrow.Author.Rules.{rules}
use mathlib.Core.List.{[]}
use lib.ListN.{length, take}
use lib.Seq.{length-take-le}
use Rattle.std.specs.Prelude.{Some}
use Rattle.model.specs.Netlist.{ports}
use Rattle.netlist.specs.NetOf.{net_of, alone}
use Rattle.netlist.proofs.NetOf.{sizes-lists}
use Rattle.text_writer.proofs.Table.{filled-table}
use Rattle.group_order.proofs.Remaining.{first-remaining}
use Rattle.program_output.specs.Printed.{frames_text}
use Rattle.program_output.specs.Pieces.{Continues}
use Rattle.program_output.proofs.Pieces.{due-order_has}
use Rattle.program_output.proofs.Printed.{taken-frames, PrintedSo, header-printed, piece-stands, piece-printed, all-printed}
use Rattle.std.specs.Io.KnownBytes.{Appends}
use Rattle.std.proofs.KnownBytes.{Appends-nil}
use Rattle.frames.proofs.Written.{written-as, written-then, nothing-between, between-more, between-all}
use Rattle.frames.proofs.print_clauses.Given.{Over}
use Rattle.frames.proofs.print_clauses.Goals as goal
use Rattle.frames.proofs.print_clauses.Goals.{After-print_groups-piece, In-Some}

pub loop-next-init : goal.loop-next-init
loop-next-init g c =
    let taken = c.requires.0 in
    let sizes = sizes-lists c.args.taken.net c.args.latches.now c.args.gates.now [] [] (rw taken.net-is taken.accepted.limits.sizes) in
    let ports-most : ports (alone c.args.taken.net) ≤ 2 = omega (arith, sizes.kind_fits) in (
      search rules,
      search rules,
      filled-table _ _ (search rules) c.fill_table.ensures,
      header-printed (taken-frames taken) c.requires.1 (c.first_group-next.ensures _),
      omega (arith, c.requires.2, first-remaining (ports (alone c.args.taken.net)) c.args.taken.depth c.first_group-next.result ports-most taken.depth-most (c.first_group-next.ensures _)),
      search rules,
      λ last. (last, subst (Appends _ _) (sym (nothing-between c.args.sent.now (frames_text c.args.input.now))) (Appends-nil _)),
    )

-- the group that comes next is due
so_far : (g : Over) (c : In-Some g) →
    PrintedSo (frames_text c.args.input.now) (net_of c.args.taken.net c.args.latches.now c.args.gates.now) c.args.taken.depth c.loop-next.sent (Some c.in-Some.group)
so_far g c = rw c.in-Some.is at c.loop-next.invariant.3

pub print_groups-piece-requires : goal.print_groups-piece-requires
print_groups-piece-requires g c =
    let taken = c.requires.0 in
    (rw taken.net-is taken.accepted, taken.depth-most, due-order_has (so_far g (goal.at.print_groups-piece-requires g c).In-Some).text-due, λ long. c.loop-next.invariant.2, omega (arith, c.loop-next.invariant.1), omega (arith, c.loop-next.invariant.0))

-- the text is within its buffer
module _ (g : Over) (c : After-print_groups-piece g) where
  within : c.print_groups-piece.result.bytes ≤ length c.print_groups-piece.new.text
  within = omega (arith, c.print_groups-piece.ensures.within, c.print_groups-piece.auto.text)

  -- which is as long as it was
  most : length (take c.print_groups-piece.result.bytes c.print_groups-piece.new.text) ≤ 131072
  most =
      let counted : length (take c.print_groups-piece.result.bytes c.print_groups-piece.new.text) ≡ c.print_groups-piece.result.bytes = length-take-le _ _ within in
      omega (arith, counted, c.print_groups-piece.ensures.within, c.loop-next.invariant.0)

  -- and the piece is the text that is next
  due : PrintedSo (frames_text c.args.input.now) (net_of c.args.taken.net c.args.latches.now c.args.gates.now) c.args.taken.depth c.loop-next.sent (Some c.in-Some.group)
  due = rw c.in-Some.is at c.loop-next.invariant.3

  continues : Continues (net_of c.args.taken.net c.args.latches.now c.args.gates.now) c.args.taken.depth due.due c.print_groups-piece.new.text c.print_groups-piece.result
  continues = c.print_groups-piece.ensures.text _ due.text-due

pub slice_bounds-text-end : goal.slice_bounds-text-end
slice_bounds-text-end g c = within g (goal.at.slice_bounds-text-end g c).After-print_groups-piece

pub slice_bounds-write_next-end : goal.slice_bounds-write_next-end
slice_bounds-write_next-end g c = sym (length-take-le _ _ (within g (goal.at.slice_bounds-write_next-end g c).After-print_groups-piece))

pub write_next-requires : goal.write_next-requires
write_next-requires g c =
    let there = (goal.at.write_next-requires g c).After-print_groups-piece in (
      piece-stands (due g there) (continues g there),
      omega (arith, c.loop-next.invariant.4, most g there),
    )

pub loop-next-smaller : goal.loop-next-smaller
loop-next-smaller g c = rw c.in-Some.is (omega (arith, c.print_groups-piece.ensures.ends))

pub loop-next-preserved : goal.loop-next-preserved
loop-next-preserved g c =
    let there = (goal.at.loop-next-preserved g c).After-print_groups-piece in
    let sent = c.write_next.ensures.sent in
    let fewer = c.print_groups-piece.ensures.ends in
    let stands = piece-stands (due g there) (continues g there) in (
      search rules,
      search rules,
      c.loop-next.invariant.2,
      rw sent (piece-printed (due g there) (continues g there)),
      omega (arith, sent, rw c.in-Some.is at c.loop-next.invariant.4, fewer, most g there),
      omega (arith, sent, c.loop-next.invariant.5),
      rw sent (written-then _ _ _ _ _ _ _ _ _ c.loop-next.invariant.6 (written-as _ _ _ _ _ _ c.write_next.ensures.written stands) (between-more _ _ _ _ c.loop-next.invariant.5)),
    )

pub returns : goal.returns
returns g c =
    let all = all-printed (rw c.in_default.is at c.loop-next.invariant.3) in
    record { sent = all; written = written-as _ _ _ _ _ _ c.loop-next.invariant.6 (between-all _ _ _ all) }
