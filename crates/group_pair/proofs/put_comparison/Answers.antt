-- `group_pair::put_comparison` meets its contract: the bits, then the clause of all of them.

use borrow.Author.Rules.{rules}
use Rattle.model.proofs.Joined.{written-append}
use Rattle.clause_writer.proofs.Wrote.{wrote_then}
use Rattle.group_pair.specs.PairParts.{comparison_clauses}
use Rattle.group_pair.proofs.put_comparison.Goals as goal

pub returns : goal.returns
unfolding comparison_clauses
returns c =
    (rw written-append (wrote_then c.put_address_bits-a.ensures.0 c.put_all_bits.ensures.0), search rules)
