-- `clause_tseitin::put_same_of` meets its contract: two clauses.

use borrow.Author.Rules.{rules}
use Rattle.model.specs.Clauses.{same_if_clauses}
use Rattle.clause_writer.proofs.Wrote.{wrote-clauses}
use Rattle.clause_tseitin.proofs.put_same_of.Goals as goal

pub returns : goal.returns
unfolding same_if_clauses
returns g c = (
  simp (c.inverse-not_p.ensures.literal, c.inverse.ensures.literal, c.inverse-2.ensures.literal)
      at (wrote-clauses _ _ c.put_three-i.ensures.0 c.put_three.ensures.0),
  search rules,
)
