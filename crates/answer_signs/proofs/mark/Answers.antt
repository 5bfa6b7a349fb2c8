-- `answer_signs::mark` meets its contract: a number's variable gets its sign, and no other entry changes.

use Rattle.decimal.proofs.Signed.{read_back}
use Rattle.answer_signs.proofs.Signs.{marked, past}
use Rattle.answer_signs.proofs.mark.Goals as goal

pub returns-then-v-lt1198082 : goal.returns-then-v-lt1198082
returns-then-v-lt1198082 c =
    let z = c.args.number in
    let parts = rw (read_back z c.ranges.number) at c.parts_of-parts.ensures in
    λ ys s.
    rw (c.with_sign.ensures, parts)
    (marked ys z c.requires c.args.signs.now s (rw parts at c.if-v-lt1198082.true))

pub returns-else-v-lt1198082 : goal.returns-else-v-lt1198082
returns-else-v-lt1198082 c =
    let z = c.args.number in
    let parts = rw (read_back z c.ranges.number) at c.parts_of-parts.ensures in
    λ ys s. past ys z c.requires c.args.signs.now s (rw parts at c.if-v-lt1198082.false)
