-- `refutation_hints::next_turn` meets its contract.

use native.Mathlib.Omega.{arith}
use Rattle.refutation_hints.proofs.next_turn.Goals as goal

pub returns-then-turn-eq4294967295 : goal.returns-then-turn-eq4294967295
returns-then-turn-eq4294967295 c = λ s. omega (arith, c.clear.ensures s)

pub returns : goal.returns
returns c = λ s. omega (arith, c.requires s)
