-- `program_export::write_refused` meets its contract: a refusal's line has 28 bytes.

use native.Mathlib.Omega.{arith}
use borrow.Author.Rules.{rules}
use Rattle.dimacs.proofs.Text.{length-refusal_text}
use Rattle.program_export.proofs.write_refused.Goals as goal

pub write_refusal-requires : goal.write_refusal-requires
write_refusal-requires c =
    omega (arith, c.requires, length-refusal_text c.number.result c.args.place (search rules) (search rules))

pub returns : goal.returns
returns c =
    let w = c.write_refusal.ensures in
    (rw c.number.ensures at w, omega (arith, w.counted, length-refusal_text c.number.result c.args.place (search rules) (search rules)))
