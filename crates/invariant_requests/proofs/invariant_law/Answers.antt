-- `invariant_requests::invariant_law` meets its contract.

use native.Mathlib.Omega.{arith}
use mathlib.Core.Path.{◌∙◌}
use borrow.Author.Tests.{lt-ltb, le-ltb}
use lib.IntN.{pos}
use lib.ListN.{length, get_or}
use Rattle.decimal.proofs.Signed.{read_back}
use Rattle.invariant_axioms.specs.Laws.{invariant_law}
use Rattle.invariant_requests.proofs.invariant_law.Goals as goal

pub returns-then-at-invariant : goal.returns-then-at-invariant
unfolding invariant_law
returns-then-at-invariant c =
    let zs = c.args.invariant.now in
    c.place_law.ensures
    ∙ rw (read_back (get_or zs c.args.h (pos 0)) (record { sfits = (omega arith) }), lt-ltb c.args.h (length zs) c.if-at-invariant.true)

pub returns : goal.returns
unfolding invariant_law
returns c =
    c.last_law.ensures ∙ rw (le-ltb c.args.h (length c.args.invariant.now) (omega arith))
