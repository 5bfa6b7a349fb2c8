-- `dimacs::put_clauses` meets its contract: `clauses_fit` tests the exact length.

use mathlib.Core.Path.{sym, ◌∙◌}
use borrow.Author.Tests.{leb-false}
use lib.ListN.{length}
use Rattle.dimacs.specs.Text.{clause_text}
use Rattle.dimacs.proofs.Text.{other-numbers}
use Rattle.dimacs.proofs.PrintCalls.{written, not_written}
use Rattle.dimacs.proofs.put_clauses.Goals as goal

pub returns-then-clauses_fit : goal.returns-then-clauses_fit
returns-then-clauses_fit c =
    let put = written (clause_text c.args.numbers.now) c.args.out.now c.write_numbers.new.out c.write_numbers.result c.write_numbers.auto.out c.write_numbers.ensures in
    record { answer = put.answer; borrowed = put.borrowed; others = other-numbers }

pub returns : goal.returns
returns c =
    let kept = not_written (clause_text c.args.numbers.now) c.args.out.now
    (leb-false (length (clause_text c.args.numbers.now)) (length c.args.out.now) (sym c.clauses_fit.ensures ∙ c.if-clauses_fit.false)) in
    record { answer = kept.answer; borrowed = kept.borrowed; others = other-numbers }
