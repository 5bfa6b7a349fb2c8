-- `literals::Lit::negated` meets its contract: within the bound, the machine's 0 - x is x with its sign turned.

use Rattle.literals.proofs.Literal.{literal_at-neg, nat_abs-neg, minus-fits, minus_is}
use Rattle.literals.proofs.Lit.negated.Goals as goal

pub overflow_sub-result : goal.overflow_sub-result
overflow_sub-result c = minus-fits c.args.self.0 c.requires.bounded

pub returns : goal.returns
returns c =
    let z = c.args.self.0 in
    let is-lit = c.requires in
    rw (minus_is z is-lit.bounded)
    (record { literal = literal_at-neg z is-lit.nonzero; number = record { nonzero = rw (nat_abs-neg z) is-lit.nonzero; bounded = rw (nat_abs-neg z) is-lit.bounded } })
