-- `program_import::write_refused` meets its contract: nothing, or the line of the refusal.

use mathlib.Core.Path.{sym, ◌∙◌}
use native.Mathlib.Omega.{arith}
use Rattle.model.proofs.Wrote.{wrote_nothing}
use Rattle.dimacs.proofs.Text.{length-refusal_text}
use Rattle.program_import.proofs.write_refused.Goals as goal

pub returns-then-is_cut : goal.returns-then-is_cut
returns-then-is_cut c = rw (sym c.is_cut.ensures ∙ c.if-is_cut.true) (record { text = wrote_nothing _; most = omega arith })

pub write_refusal-requires : goal.write_refusal-requires
write_refusal-requires c =
    omega (arith, c.requires, length-refusal_text c.args.number c.args.place c.ranges.number.fits c.ranges.place.fits)

pub returns : goal.returns
returns c =
    let w = c.write_refusal.ensures in
    rw (sym c.is_cut.ensures ∙ c.if-is_cut.false)
    (record { text = w; most = omega (arith, w.counted, length-refusal_text c.args.number c.args.place c.ranges.number.fits c.ranges.place.fits) })
