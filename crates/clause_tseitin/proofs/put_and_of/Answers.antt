-- `clause_tseitin::put_and_of` meets its contract: two clauses, then the third.

use borrow.Author.Rules.{rules}
use Rattle.model.specs.Clauses.{and_clauses}
use Rattle.clause_writer.proofs.Wrote.{wrote-clauses}
use Rattle.clause_tseitin.proofs.put_and_of.Goals as goal

pub returns : goal.returns
unfolding and_clauses
returns g c =
    let two = wrote-clauses _ _ c.put_two-i.ensures.0 c.put_two.ensures.0 in (
      simp (c.inverse-not_g.ensures.literal, c.inverse.ensures.literal, c.inverse-2.ensures.literal)
          at (wrote-clauses _ _ two c.put_three.ensures.0),
      search rules,
    )
