-- `sheet_tests::no_codes` meets its contract: it is the definition.

use mathlib.Core.Path.{refl}
use Rattle.sheet_parse.specs.Progress.{no_codes}
use Rattle.sheet_tests.proofs.no_codes.Goals as goal

pub returns : goal.returns
unfolding no_codes
returns c = refl
