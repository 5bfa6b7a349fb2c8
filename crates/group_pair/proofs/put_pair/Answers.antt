-- `group_pair::put_pair` meets its contract: its three parts, one after the other.

use borrow.Author.Rules.{rules}
use Rattle.clause_writer.proofs.Wrote.{wrote_then}
use Rattle.group_pair.proofs.OfPair.{pair_parts}
use Rattle.group_pair.proofs.put_pair.Goals as goal

pub returns : goal.returns
returns c =
    let first = wrote_then c.put_comparison-a.ensures.0 c.put_gated_data.ensures.0 in
    (rw pair_parts (wrote_then first c.put_agreed.ensures.0), search rules)
