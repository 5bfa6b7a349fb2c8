-- `aiger_lines::is_aag` meets its contract.

use mathlib.Core.Path.{◌≡◌, ap, ◌∙◌}
use Rattle.std.proofs.Common.{rules}
use Rattle.decimal.specs.TextValue.{same_text}
use Rattle.decimal.proofs.TextValue.{same_text-pointwise}
use Rattle.aiger_lines.specs.Parts.{aag}
use Rattle.aiger_lines.proofs.is_aag.Goals as goal

pub returns : goal.returns
returns c =
    let other : c.as_slice.result.now ≡ aag = search rules in
    c.eq.ensures ∙ same_text-pointwise c.args.word.now c.as_slice.result.now ∙ ap (same_text c.args.word.now) other
