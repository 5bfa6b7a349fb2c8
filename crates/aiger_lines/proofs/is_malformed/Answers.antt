-- `aiger_lines::is_malformed` meets its contract: the count of numbers, then the literals.

use mathlib.Core.Path.{◌≡◌, sym, ap, ◌∙◌}
use mathlib.Core.Bool.{◌&&◌, not, false≢true}
use Prim.Native.Nat.{ℕ}
use lib.ListN.{length}
use native.Mathlib.Omega.{arith}
use borrow.Author.Tests.{ne_eqb}
use Rattle.aiger_lines.specs.Parts.{width, defines, not_definable}
use Rattle.aiger_lines.specs.Steps.{numbers_held}
use Rattle.aiger_lines.proofs.FirstFive.{in-length, in-at}
use Rattle.aiger_lines.proofs.Parts.{width-bounds, malformed_line-count, malformed_line-high, malformed_line-defined}
use Rattle.aiger_lines.proofs.is_malformed.Goals as goal
use Rattle.aiger_lines.proofs.is_malformed.Goals.{then-numbers-width, else-numbers-width}

pub returns-then-has_high_literal : goal.returns-then-has_high_literal
returns-then-has_high_literal c =
    let numbers = c.args.numbers in
    elim c.if-numbers-width.branch [
      | then-numbers-width w ↦
          c.if-has_high_literal.true
          ∙ sym
          (malformed_line-count c.args.counts c.args.part (numbers_held numbers)
          (λ e. w.if-numbers-width.true (sym (in-length numbers c.requires) ∙ e ∙ sym c.width.ensures)))
      | else-numbers-width w ↦
          let count = in-length numbers c.requires ∙ w.if-numbers-width.false ∙ c.width.ensures in
          let high = sym w.has_high_literal.ensures ∙ sym w.value-is ∙ c.if-has_high_literal.true in
          c.if-has_high_literal.true ∙ sym (malformed_line-high c.args.counts c.args.part (numbers_held numbers) count high)
    ]

pub returns-else-has_high_literal : goal.returns-else-has_high_literal
returns-else-has_high_literal c =
    let numbers = c.args.numbers in
    elim c.if-numbers-width.branch [
      | then-numbers-width w ↦ absurd (false≢true (sym c.if-has_high_literal.false ∙ w.value-is ∙ ap not (ne_eqb _ _ w.if-numbers-width.true)))
      | else-numbers-width w ↦
          let count : length (numbers_held numbers) ≡ width c.args.part =
          in-length numbers c.requires ∙ w.if-numbers-width.false ∙ c.width.ensures in
          let low = sym w.has_high_literal.ensures ∙ sym w.value-is ∙ c.if-has_high_literal.false in
          let some = in-at numbers 0 (omega (arith, in-length numbers c.requires, width-bounds c.args.part)) in
          c.has_wrong_definition.ensures
          ∙ ap (λ (x : ℕ). defines c.args.part && not_definable x) (sym some)
          ∙ sym (malformed_line-defined c.args.counts c.args.part (numbers_held numbers) count low)
    ]
