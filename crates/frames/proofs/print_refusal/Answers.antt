-- `frames::print_refusal` meets its contract: the text fits into its buffer, and is all that is to be printed.

use mathlib.Core.Path.{◌≡◌, sym, ◌∙◌, ap}
use mathlib.Core.List.{append-nil}
use native.Mathlib.Omega.{arith}
use lib.ListN.{length, take}
use lib.Seq.{length-take-le}
use Rattle.dimacs.specs.Text.{refusal_text}
use Rattle.dimacs.proofs.Text.{length-refusal_text}
use Rattle.group_counts.proofs.Counted.{wrote-front}
use Rattle.program_output.proofs.Printed.{first-stands}
use Rattle.frames.proofs.Written.{written-as}
use Rattle.frames.proofs.print_refusal.Given.{Over}
use Rattle.frames.proofs.print_refusal.Goals as goal
use Rattle.frames.proofs.print_refusal.Goals.{After-write_refusal-bytes}

pub write_refusal-bytes-requires : goal.write_refusal-bytes-requires
write_refusal-bytes-requires g c =
    omega (arith, length-refusal_text c.args.number c.args.place c.ranges.number.fits c.ranges.place.fits)

-- the text is 28 bytes, and all of the buffer
counted : (g : Over) (c : After-write_refusal-bytes g) → c.write_refusal-bytes.result ≡ 28
counted g c =
    omega (arith, c.write_refusal-bytes.ensures.counted, length-refusal_text c.args.number c.args.place c.ranges.number.fits c.ranges.place.fits)

front : (g : Over) (c : After-write_refusal-bytes g) → take c.write_refusal-bytes.result c.write_refusal-bytes.new.out ≡ refusal_text c.args.number c.args.place
front g c = wrote-front c.write_refusal-bytes.ensures

pub slice_bounds-text-end : goal.slice_bounds-text-end
slice_bounds-text-end g c =
    omega (arith, counted g (goal.at.slice_bounds-text-end g c).After-write_refusal-bytes, c.write_refusal-bytes.auto.out)

pub slice_bounds-write_next-end : goal.slice_bounds-write_next-end
slice_bounds-write_next-end g c = let all = counted g (goal.at.slice_bounds-write_next-end g c).After-write_refusal-bytes in
    sym (length-take-le _ _ (omega (arith, all, c.write_refusal-bytes.auto.out)))

pub write_next-requires : goal.write_next-requires
write_next-requires g c =
    let there = (goal.at.write_next-requires g c).After-write_refusal-bytes in (
      first-stands _ _ (c.requires.0 ∙ sym (front g there) ∙ sym (append-nil _)) c.requires.1,
      omega (arith, c.requires.1, counted g there, ap length (front g there), c.write_refusal-bytes.ensures.counted),
    )

pub returns : goal.returns
returns g c =
    let all = front g (goal.at.returns g c).After-write_refusal-bytes in
    record {
      sent = c.write_next.ensures.sent ∙ omega (arith, c.requires.1, ap length all, ap length c.requires.0);
      written = written-as _ _ _ _ _ _ c.write_next.ensures.written (all ∙ sym c.requires.0);
    }
