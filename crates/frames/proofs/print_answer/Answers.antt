-- `frames::print_answer` meets its contract: the refusal is all that is printed, or the formula is.

use native.Mathlib.Omega.{arith}
use Rattle.program_output.proofs.Printed.{refused-frames}
use Rattle.frames.proofs.print_answer.Goals as goal

pub print_refusal-requires : goal.print_refusal-requires
print_refusal-requires g c =
    (refused-frames _ _ c.read_input-taken.ensures.answer (λ none. omega arith), c.requires.0)

pub print_formula-requires : goal.print_formula-requires
print_formula-requires g c = (c.read_input-taken.ensures.taken c.if-taken-ne0.false, c.requires.0)
