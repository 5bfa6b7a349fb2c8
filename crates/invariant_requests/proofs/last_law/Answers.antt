-- `invariant_requests::last_law` meets its contract.

use mathlib.Core.Path.{◌∙◌}
use Rattle.invariant_axioms.specs.Laws.{last_law}
use Rattle.invariant_requests.proofs.last_law.Goals as goal

pub returns : goal.returns
unfolding last_law
returns c =
    c.pick.ensures
    ∙ rw (
      c.no_law-2.ensures,
      c.no_law.ensures,
      c.same-2.ensures,
      c.same.ensures,
      c.term-found.ensures.0,
      c.term-none.ensures.0,
      c.false_term-no.ensures,
    )
