-- `clause_writer::put_three_numbers` meets its contract: a number before a clause of two.

use borrow.Author.Rules.{rules}
use Rattle.clause_writer.proofs.Wrote.{wrote_then, written-three-numbers}
use Rattle.clause_writer.proofs.put_three_numbers.Goals as goal

pub returns : goal.returns
returns c =
    (rw written-three-numbers (wrote_then c.put_lit-i.ensures.0 c.put_two_numbers.ensures.0), search rules)
