-- `sheet_parse::has_line` meets its contract: it is the definition.

use mathlib.Core.Path.{refl}
use Rattle.sheet_parse.specs.LineAnswers.{has_line}
use Rattle.sheet_parse.proofs.has_line.Goals as goal

pub returns : goal.returns
unfolding has_line
returns c = refl
