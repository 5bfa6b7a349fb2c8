-- `clause_writer::put_end` meets its contract: the end mark, behind -1 where nothing is written before it.

use Rattle.model.specs.Numbers.{end_of}
use Rattle.clause_writer.proofs.Wrote.{wrote_then, end-begun}
use borrow.Author.Rules.{rules}
use Rattle.clause_writer.proofs.put_end.Goals as goal

pub returns-then-begun-eq0 : goal.returns-then-begun-eq0
unfolding end_of
returns-then-begun-eq0 c =
    (rw c.if-begun-eq0.true (wrote_then c.put_minus_one-i.ensures.0 c.put_mark.ensures.0), search rules)

pub returns : goal.returns
returns c =
    (rw (end-begun _ c.if-begun-eq0.false) c.put_mark-2.ensures.0, search rules)
