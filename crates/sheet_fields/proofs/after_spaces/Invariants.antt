-- `sheet_fields::after_spaces` meets its contract. The loop's invariant: what is behind the spaces from i on is what is behind those of
-- the whole.

use mathlib.Core.Path.{◌≡◌}
use lib.ListN.{drop}
use Rattle.sheet_fields.specs.Fields.{drop_spaces}
use Rattle.sheet_fields.proofs.after_spaces.Given as goal

abbrev pub invariant-loop-i : goal.invariant-loop-i
invariant-loop-i l = drop_spaces (drop l.i l.field) ≡ drop_spaces l.field
