-- `replay_frame::word_of` meets its contract. The loop's invariant: the first t bits make the word.

use native.Mathlib.Omega.{arith}
use Rattle.model.proofs.Bits.{from_bits-below}
use Rattle.circuit_values.proofs.Bits.{from_bits-none, from_bits-next}
use Rattle.replay_frame.proofs.word_of.Goals as goal

pub loop-t-init : goal.loop-t-init
loop-t-init c = from_bits-none _

pub with_bit-word-requires : goal.with_bit-word-requires
with_bit-word-requires c = (omega arith, rw c.loop-t.invariant (from_bits-below _ _))

pub loop-t-preserved : goal.loop-t-preserved
loop-t-preserved c = rw (c.with_bit-word.ensures, c.is_true.ensures.truth, c.loop-t.invariant) (from_bits-next c.loop-t.t _)
