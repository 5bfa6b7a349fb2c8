-- `answer_lines::read_status` meets its contract.

use mathlib.Core.Path.{sym, ◌∙◌}
use Rattle.answer_lines.specs.Progress.{status_in}
use Rattle.answer_lines.proofs.read_status.Goals as goal

pub returns-then-same_text : goal.returns-then-same_text
unfolding status_in
returns-then-same_text c = sym (rw (sym c.same_text.ensures ∙ c.if-same_text.true))

pub returns-then-same_text-2 : goal.returns-then-same_text-2
unfolding status_in
returns-then-same_text-2 c = sym (rw (sym c.same_text.ensures ∙ c.if-same_text.false, sym c.same_text-2.ensures ∙ c.if-same_text-2.true))

pub returns : goal.returns
unfolding status_in
returns c = sym (rw (sym c.same_text.ensures ∙ c.if-same_text.false, sym c.same_text-2.ensures ∙ c.if-same_text-2.false))
