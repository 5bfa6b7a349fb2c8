-- `text_writer::write_short_spaced` meets its contract: from 1,000 on a number has four digits.

use mathlib.Core.List.{[], ◌∷◌}
use native.Mathlib.Omega.{arith}
use Rattle.decimal.specs.Digits.{space}
use Rattle.text_writer.proofs.Table.{digits-four}
use Rattle.text_writer.proofs.write_short_spaced.Goals as goal

pub write_four_spaced-requires : goal.write_four_spaced-requires
write_four_spaced-requires c =
    (c.requires.0, c.requires.1, rw (digits-four c.args.x (space ∷ []) (omega arith) c.requires.1) at c.requires.2)

pub returns : goal.returns
returns c =
    rw (digits-four c.args.x (space ∷ []) (omega arith) c.requires.1) c.write_four_spaced.ensures
