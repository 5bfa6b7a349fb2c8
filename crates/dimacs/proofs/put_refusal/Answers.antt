-- `dimacs::put_refusal` meets its contract: its test is the text's exact length.

use native.Mathlib.Omega.{arith}
use Rattle.dimacs.specs.Text.{refusal_text}
use Rattle.dimacs.proofs.Text.{length-refusal_text}
use Rattle.dimacs.proofs.PrintCalls.{written, not_written}
use Rattle.dimacs.proofs.put_refusal.Goals as goal

pub returns-then-out-lt28 : goal.returns-then-out-lt28
returns-then-out-lt28 c =
    not_written (refusal_text c.args.number c.args.place) c.args.out.now
    (omega (arith, length-refusal_text c.args.number c.args.place c.ranges.number.fits c.ranges.place.fits))

pub write_refusal-requires : goal.write_refusal-requires
write_refusal-requires c =
    omega (arith, length-refusal_text c.args.number c.args.place c.ranges.number.fits c.ranges.place.fits)

pub returns : goal.returns
returns c =
    written (refusal_text c.args.number c.args.place) c.args.out.now c.write_refusal.new.out c.write_refusal.result c.write_refusal.auto.out c.write_refusal.ensures
