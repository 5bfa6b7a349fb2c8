-- `answer_signs::no_signs` meets its contract: every entry is 0.

use Prim.Native.Nat.{ℕ}
use lib.ListN.{replicate, length-replicate}
use Rattle.answer_signs.proofs.Signs.{none, replicate-zero}
use Rattle.answer_signs.proofs.no_signs.Goals as goal

pub returns : goal.returns
returns c = none (replicate 1198082 0) (length-replicate {0} {A = ℕ} 1198082 0) (replicate-zero 1198082)
