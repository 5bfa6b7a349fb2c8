-- `text_writer::write_ended` meets its contract: the digits, and then the byte.

use mathlib.Core.List.{[], ◌∷◌}
use Rattle.decimal.specs.Digits.{digits}
use Rattle.model.proofs.Wrote.{wrote_then}
use Rattle.text_writer.proofs.write_ended.Goals as goal

pub returns : goal.returns
returns c =
    wrote_then (digits c.args.x) (c.args.byte ∷ []) c.args.out.now c.put_digits-count.new.out c.write_byte.new.out c.put_digits-count.result c.write_byte.result c.put_digits-count.ensures c.write_byte.ensures
