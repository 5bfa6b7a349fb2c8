-- `group_pair::put_gated_data` meets its contract: the gates, then the data bits.

use borrow.Author.Rules.{rules}
use Rattle.model.proofs.Joined.{written-append}
use Rattle.clause_writer.proofs.Wrote.{wrote_then}
use Rattle.group_pair.specs.PairParts.{gated_data_clauses}
use Rattle.group_pair.proofs.put_gated_data.Goals as goal

pub returns : goal.returns
unfolding gated_data_clauses
returns c =
    (rw written-append (wrote_then c.put_select-a.ensures.0 c.put_forwarded.ensures.0), search rules)
