-- `invariant_memory::word_term` meets its contract.

use mathlib.Core.Path.{◌∙◌}
use Rattle.invariant_memory.proofs.word_term.Goals as goal

pub returns : goal.returns
returns c =
    c.bit_term.ensures.0 ∙ rw c.word_bit-bit.ensures.0
