-- `replay_frame::word_of` meets its contract. The loop's invariant: the first t bits make the word.

use Prim.Native.Nat.{◌+◌}
use mathlib.Core.Path.{◌≡◌}
use Rattle.model.specs.Bits.{from_bits}
use Rattle.answer_signs.specs.Signs.{true_in}
use Rattle.replay_frame.proofs.word_of.Given as goal

abbrev pub invariant-loop-t : goal.invariant-loop-t
invariant-loop-t l = l.word ≡ from_bits l.t (λ x. true_in l.signs (l.first + x))
