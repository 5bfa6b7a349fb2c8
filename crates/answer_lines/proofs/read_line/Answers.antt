-- `answer_lines::read_line` meets its contract: what each progress makes of a line that is no comment.

use Prim.Native.Nat.{◌-◌}
use mathlib.Core.Path.{refl, sym, ◌∙◌}
use mathlib.Core.List.{[]}
use Rattle.std.proofs.Common.{inl, inr}
use native.Mathlib.Omega.{arith}
use lib.ListN.{length, drop, length-drop}
use lib.Seq.{take_all}
use Rattle.answer_lines.specs.Answer.{unsatisfiable, satisfiable}
use Rattle.answer_lines.specs.Progress.{answer_from}
use Rattle.answer_lines.proofs.Texts.{marked-length}
use Rattle.answer_lines.proofs.Lines.{unmarked-line, line-comment, line-malformed, line-status, line-value, line-too-many}
use Rattle.answer_lines.proofs.read_line.Goals as goal

pub returns-then-is_comment : goal.returns-then-is_comment
returns-then-is_comment c = line-comment c.args.line.now (sym c.is_comment.ensures ∙ c.if-is_comment.true)

pub slice_bounds-read_value-count : goal.slice_bounds-read_value-count
slice_bounds-read_value-count c =
    let line = c.args.line.now in
    marked-length line (sym c.is_marked.ensures ∙ c.if-is_marked.true)

pub slice_bounds-read_value-start : goal.slice_bounds-read_value-start
slice_bounds-read_value-start c = omega (arith, slice_bounds-read_value-count c)

pub returns-then-is_marked : goal.returns-then-is_marked
returns-then-is_marked c =
    let line = c.args.line.now in
    let m = sym c.is_marked.ensures ∙ c.if-is_marked.true in
    let part = take_all (length line - 2) (drop 2 line) (rw length-drop (omega arith)) in
    rw c.in-Values.is
    (line-value line (sym c.is_comment.ensures ∙ c.if-is_comment.false)
    m (c.requires m) (rw part at c.read_value.ensures))

pub returns-in-NoStatus : goal.returns-in-NoStatus
returns-in-NoStatus c =
    let line = c.args.line.now in
    rw (c.in-NoStatus.is, c.read_status.ensures)
    (line-status line (sym c.is_comment.ensures ∙ c.if-is_comment.false))

pub returns-else-is_marked : goal.returns-else-is_marked
unfolding answer_from
returns-else-is_marked c =
    let line = c.args.line.now in
    rw c.in-Values.is
    (line-malformed line (sym c.is_comment.ensures ∙ c.if-is_comment.false)
    (λ ls. unmarked-line line ls (sym c.is_marked.ensures ∙ c.if-is_marked.false)))

pub returns-in-Complete : goal.returns-in-Complete
unfolding answer_from
returns-in-Complete c =
    let line = c.args.line.now in
    let other = sym c.is_comment.ensures ∙ c.if-is_comment.false in
    elim c.in-Complete.is [
      | inl e ↦ rw e (line-malformed line other (λ ls. line-too-many (satisfiable []) line ls))
      | inr later ↦ elim later [ inl e ↦ rw e (line-malformed line other (λ ls. line-too-many unsatisfiable line ls)) | inr e ↦ rw e (line-malformed line other (λ ls. refl)) ]
    ]
