-- `clause_writer::put_ternary` meets its contract: left out where a literal is true, else its literals and the end.

use Rattle.clause_writer.proofs.Wrote.{clause-left-out, written-ended, has_true-three}
use mathlib.Core.Path.{◌∙◌}
use borrow.Author.Rules.{rules}
use Rattle.clause_writer.proofs.put_ternary.Goals as goal

pub returns-then-is_true : goal.returns-then-is_true
returns-then-is_true c =
    (clause-left-out _ _ (rw (has_true-three _ _ _) (rw (c.is_true.ensures, c.is_true-2.ensures, c.is_true-3.ensures) at c.if-is_true.true)), search rules)

pub returns : goal.returns
returns c =
    let none = rw (c.is_true.ensures, c.is_true-2.ensures, c.is_true-3.ensures) at c.if-is_true.false in
    rw (written-ended _ (has_true-three _ _ _ ∙ none)) c.put_last_three.ensures
