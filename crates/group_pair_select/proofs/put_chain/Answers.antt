-- `group_pair_select::put_chain` meets its contract: two gates, one after the other.

use borrow.Author.Rules.{rules}
use Rattle.clause_writer.proofs.Wrote.{wrote-clauses}
use Rattle.group_pair_select.proofs.put_chain.Goals as goal

pub returns : goal.returns
returns c =
    (rw c.negated.ensures.literal at (wrote-clauses _ _ c.put_and-a.ensures.0 c.put_and.ensures.0), search rules)
