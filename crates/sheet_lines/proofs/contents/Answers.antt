-- `sheet_lines::contents` meets its contract: the table's rule, proved once, by one computed test of all its rows and columns.

use mathlib.Core.Path.{refl}
use Rattle.sheet_lines.specs.Letters.{content_of}
use Rattle.sheet_lines.proofs.Letters.{table-follows}
use Rattle.sheet_lines.proofs.contents.Goals as goal

pub returns : goal.returns
unfolding content_of
returns c = table-follows _ refl
