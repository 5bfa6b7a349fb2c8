-- `refutation_hints::clear` meets its contract: every mark is 0.

use Rattle.refutation_hints.proofs.Marks.{up_to-zeros}
use Rattle.refutation_hints.proofs.clear.Goals as goal

pub returns : goal.returns
returns c = rw (c.fill.ensures.after (λ y e. e)) (up_to-zeros _)
