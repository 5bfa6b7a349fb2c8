-- `refutation_hints::hint_outcome` meets its contract.

use mathlib.Core.Path.{sym, ◌∙◌}
use Rattle.refutation_hints.specs.Propagation.{hint_outcome}
use Rattle.refutation_hints.proofs.hint_outcome.Goals as goal

pub returns-then-starts_at : goal.returns-then-starts_at
unfolding hint_outcome
returns-then-starts_at c =
    let starts = sym c.starts_at.ensures ∙ c.if-starts_at.true in
    rw starts c.clause_outcome.ensures

pub returns : goal.returns
unfolding hint_outcome
returns c =
    let starts = sym c.starts_at.ensures ∙ c.if-starts_at.false in
    rw starts
