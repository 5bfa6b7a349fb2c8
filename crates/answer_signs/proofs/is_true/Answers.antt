-- `answer_signs::is_true` meets its contract, and a table tells what the numbers say.

use mathlib.Core.Path.{sym}
use native.Mathlib.Omega.{arith}
use borrow.Author.Tests.{lt-ltb, le-ltb}
use Rattle.model.specs.Bits.{odd}
use Rattle.answer_signs.specs.Signs.{true_in}
use Rattle.answer_signs.proofs.Signs.{table-tells}
use Rattle.answer_signs.proofs.is_true.Goals as goal

pub returns-then-v-lt1198082 : goal.returns-then-v-lt1198082
unfolding true_in odd
returns-then-v-lt1198082 c = record { truth = sym (rw (lt-ltb c.args.variable 1198082 (omega arith))); table = table-tells }

pub returns : goal.returns
unfolding true_in odd
returns c = record { truth = sym (rw (le-ltb c.args.variable 1198082 (omega arith))); table = table-tells }
