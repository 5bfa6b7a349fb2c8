-- `group_closing::put_held` meets its contract: frame 0, or a later one.

use native.Mathlib.Omega.{arith}
use borrow.Author.Tests.{ne_eqb}
use Rattle.clause_writer.proofs.Wrote.{wrote_nothing}
use Rattle.group_closing.proofs.OfClosing.{held_first, held-later}
use Rattle.group_closing.proofs.put_held.Goals as goal

pub returns-then-i-eq0 : goal.returns-then-i-eq0
returns-then-i-eq0 c = rw (c.if-i-eq0.true, held_first) (wrote_nothing _, omega arith)

pub returns : goal.returns
returns c =
    let later = c.if-i-eq0.false in
    rw (held-later _ _ _ later, ne_eqb _ 0 later) c.put_held_reads.ensures
