-- `sheet_parse::is_ragged` meets its contract: it is the definition.

use mathlib.Core.Path.{refl}
use Rattle.sheet_parse.specs.FileTests.{ragged}
use Rattle.sheet_parse.proofs.is_ragged.Goals as goal

pub returns : goal.returns
unfolding ragged
returns c = refl
