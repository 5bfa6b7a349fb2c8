-- `answer_lines::same_text` meets its contract.

use mathlib.Core.Path.{◌∙◌}
use Rattle.decimal.proofs.TextValue.{same_text-pointwise}
use Rattle.answer_lines.proofs.same_text.Goals as goal

pub returns : goal.returns
returns c = c.eq.ensures ∙ same_text-pointwise c.args.text.now c.args.other.now
