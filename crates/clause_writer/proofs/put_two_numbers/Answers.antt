-- `clause_writer::put_two_numbers` meets its contract: two numbers, and the end mark.

use borrow.Author.Rules.{rules}
use Rattle.clause_writer.proofs.Wrote.{wrote_then, written-two-numbers}
use Rattle.clause_writer.proofs.put_two_numbers.Goals as goal

pub returns : goal.returns
returns c =
    let first = c.put_lit-i.ensures.0 in
    let second = c.put_lit.ensures.0 in
    (rw written-two-numbers (wrote_then (wrote_then first second) c.put_mark.ensures.0), search rules)
