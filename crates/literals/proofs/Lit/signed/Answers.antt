-- `literals::Lit::signed` meets its contract: the lowest bit inverts.

use mathlib.Core.Path.{◌∙◌, ap}
use Rattle.model.specs.Clauses.{neg}
use Rattle.literals.proofs.Literal.{code_at-inverted, code_at-wire}
use Rattle.literals.proofs.Lit.signed.Goals as goal

pub returns-then-x-eq1 : goal.returns-then-x-eq1
returns-then-x-eq1 c =
    rw (code_at-inverted c.args.b c.args.x c.requires.1 c.if-x-eq1.true)
    (record { literal = c.negated.ensures.literal ∙ ap neg c.variable-wire.ensures.literal; number = c.negated.ensures.number })

pub returns : goal.returns
returns c =
    rw (code_at-wire c.args.b c.args.x c.requires.1 c.if-x-eq1.false) c.variable-wire.ensures
