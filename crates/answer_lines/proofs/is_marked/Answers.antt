-- `answer_lines::is_marked` meets its contract.

use mathlib.Core.Path.{sym, ◌∙◌}
use native.Mathlib.Omega.{arith}
use borrow.Author.Tests.{eqb-true, eqb-false, ltb-true}
use lib.ListN.{length}
use Rattle.answer_lines.proofs.Texts.{marked-second, marked_other, marked-short}
use Rattle.answer_lines.proofs.is_marked.Goals as goal
use Rattle.answer_lines.proofs.is_marked.Goals.{then-line-gt1, else-line-gt1}

pub returns-then-line-eq118 : goal.returns-then-line-eq118
returns-then-line-eq118 c =
    elim c.if-line-gt1.branch [
      | then-line-gt1 w ↦ sym (marked-second c.args.line.now (omega arith) (eqb-true _ _ (sym w.value-is ∙ c.if-line-eq118.true)))
      | else-line-gt1 w ↦ absurd (omega (arith, ltb-true 1 (length c.args.line.now) (sym w.value-is ∙ c.if-line-eq118.true)))
    ]

pub returns-else-line-eq118 : goal.returns-else-line-eq118
returns-else-line-eq118 c =
    elim c.if-line-gt1.branch [
      | then-line-gt1 w ↦ c.if-line-eq118.false ∙ sym (marked_other c.args.line.now (eqb-false _ _ (sym w.value-is ∙ c.if-line-eq118.false)))
      | else-line-gt1 w ↦ c.if-line-eq118.false ∙ sym (marked-short c.args.line.now (omega arith))
    ]
