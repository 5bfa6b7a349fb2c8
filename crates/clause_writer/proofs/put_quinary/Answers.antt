-- `clause_writer::put_quinary` meets its contract: left out where a literal is true, else two literals and the rest.

use mathlib.Core.Path.{sym, ◌∙◌}
use native.Mathlib.Omega.{arith}
use Rattle.clause_writer.proofs.Wrote.{wrote_then, clause-left-out, written_behind, has_true-five}
use borrow.Author.Rules.{rules}
use Rattle.clause_writer.proofs.put_quinary.Goals as goal

pub returns-then-is_true : goal.returns-then-is_true
returns-then-is_true c =
    let some = rw (c.is_true.ensures, c.is_true-2.ensures, c.is_true-3.ensures, c.is_true-4.ensures, c.is_true-5.ensures) at c.if-is_true.true in
    (clause-left-out _ _ (has_true-five _ _ _ _ _ ∙ some), omega arith)

pub put_last_three-requires : goal.put_last_three-requires
put_last_three-requires c = (search rules, search rules, search rules, search rules, search rules)

pub returns : goal.returns
returns c =
    let first = c.put_literal-i.ensures in
    let second = c.put_literal.ensures in
    let last = c.put_last_three.ensures in
    let none = rw (c.is_true.ensures, c.is_true-2.ensures, c.is_true-3.ensures, c.is_true-4.ensures, c.is_true-5.ensures) at c.if-is_true.false in
    let begun = wrote_then first.0 second.0 in
    (rw (written_behind _ _ _ (has_true-five _ _ _ _ _ ∙ none), sym begun.counted) (wrote_then begun last.0), omega (arith, first.1, second.1, last.1))
