-- `clause_tseitin::put_same` meets its contract: two clauses.

use borrow.Author.Rules.{rules}
use Rattle.model.specs.Clauses.{same_clauses}
use Rattle.clause_writer.proofs.Wrote.{wrote-clauses}
use Rattle.clause_tseitin.proofs.put_same.Goals as goal

pub returns : goal.returns
unfolding same_clauses
returns c = (
  simp (c.negated.ensures.literal, c.negated-2.ensures.literal)
      at (wrote-clauses _ _ c.put_binary-i.ensures.0 c.put_binary.ensures.0),
  search rules,
)
