-- `program_import::is_cut` meets its contract.

use borrow.Author.Tests.{eq-eqb, ne_eqb}
use Rattle.program_import.proofs.is_cut.Goals as goal

pub returns-then-not-more : goal.returns-then-not-more
returns-then-not-more c = rw c.if-not-more.true

pub returns-then-number-eq11 : goal.returns-then-number-eq11
returns-then-number-eq11 c =
    rw (c.if-not-more.false, eq-eqb c.args.number 11 c.if-number-eq11.true, c.line_count.ensures)

pub returns : goal.returns
returns c =
    rw (c.if-not-more.false, ne_eqb c.args.number 11 c.if-number-eq11.false)
