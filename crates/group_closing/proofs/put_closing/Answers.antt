-- `group_closing::put_closing` meets its contract: the bits read at the start, the bits held, then the sources.

use borrow.Author.Rules.{rules}
use Rattle.clause_writer.proofs.Wrote.{wrote_then}
use Rattle.group_closing.proofs.OfClosing.{closing-parts}
use Rattle.group_closing.proofs.put_closing.Goals as goal

pub returns : goal.returns
returns c =
    let first = wrote_then c.put_initial-a.ensures.0 c.put_held.ensures.0 in
    (rw closing-parts (wrote_then first c.put_some_source.ensures.0), search rules)
