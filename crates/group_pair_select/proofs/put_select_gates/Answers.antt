-- `group_pair_select::put_select_gates` meets its contract: one gate, then the other two.

use borrow.Author.Rules.{rules}
use Rattle.model.specs.Clauses.{and_clauses}
use Rattle.clause_writer.proofs.Wrote.{wrote-clauses}
use Rattle.group_pair_select.specs.SelectClauses.{select_clauses}
use Rattle.group_pair_select.proofs.put_select_gates.Goals as goal

pub returns : goal.returns
unfolding and_clauses select_clauses
returns c = (wrote-clauses _ _ c.put_and-a.ensures.0 c.put_chain.ensures.0, search rules)
