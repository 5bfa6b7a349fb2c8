-- `answer_signs::is_unclear` meets its contract: an entry of 0 or of both bits.

use mathlib.Core.Path.{sym}
use native.Mathlib.Omega.{arith}
use borrow.Author.Tests.{eq-eqb, ne_eqb, lt-ltb, le-ltb}
use lib.ListN.{get_or}
use Rattle.answer_signs.specs.Signs.{unclear_in}
use Rattle.answer_signs.proofs.is_unclear.Goals as goal

pub returns-then-entry-eq0 : goal.returns-then-entry-eq0
unfolding unclear_in
returns-then-entry-eq0 c =
    sym (rw (lt-ltb c.args.variable 1198082 (omega arith), eq-eqb (get_or c.args.signs.now c.args.variable 0) 0 (omega arith)))

pub returns-then-v-lt1198082 : goal.returns-then-v-lt1198082
unfolding unclear_in
returns-then-v-lt1198082 c =
    sym (rw (lt-ltb c.args.variable 1198082 (omega arith), ne_eqb (get_or c.args.signs.now c.args.variable 0) 0 (λ h. omega arith)))

pub returns : goal.returns
unfolding unclear_in
returns c = sym (rw (le-ltb c.args.variable 1198082 (omega arith)))
