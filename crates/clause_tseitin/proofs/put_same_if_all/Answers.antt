-- `clause_tseitin::put_same_if_all` meets its contract: two clauses that begin alike.

use borrow.Author.Rules.{rules}
use Rattle.model.specs.Clauses.{same_if_all_clauses}
use Rattle.clause_writer.proofs.Wrote.{wrote-clauses}
use Rattle.clause_tseitin.proofs.put_same_if_all.Goals as goal

pub returns : goal.returns
unfolding same_if_all_clauses
returns c = (
  simp (c.negated-not_p.ensures.literal, c.negated-not_q.ensures.literal, c.negated-not_r.ensures.literal, c.negated.ensures.literal, c.negated-2.ensures.literal)
      at (wrote-clauses _ _ c.put_quinary-i.ensures.0 c.put_quinary.ensures.0),
  search rules,
)
