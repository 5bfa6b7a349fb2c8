-- `replay::print_refusal` meets its contract: the text fits into its buffer.

use native.Mathlib.Omega.{arith}
use Rattle.dimacs.proofs.Text.{length-refusal_text}
use Rattle.replay.proofs.print_refusal.Goals as goal

pub write_refusal-bytes-requires : goal.write_refusal-bytes-requires
write_refusal-bytes-requires g c =
    omega (arith, length-refusal_text c.args.number c.args.place c.ranges.number.fits c.ranges.place.fits)
