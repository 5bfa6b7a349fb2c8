-- `aiger_binary::put_number` meets its contract.

use mathlib.Core.List.{[], ◌∷◌}
use native.Mathlib.Omega.{arith}
use lib.ListN.{length-append}
use Rattle.decimal.specs.Digits.{digits}
use Rattle.decimal.proofs.Digits.{length-digits-most}
use Rattle.aiger_binary.proofs.put_number.Goals as goal

pub write_ended-requires : goal.write_ended-requires
write_ended-requires c =
    omega (arith, length-append (digits c.args.x) (c.args.byte ∷ []), length-digits-most 4 c.args.x (omega arith) (omega arith))

pub returns : goal.returns
returns c =
    let written = c.write_ended.ensures in
    (written, omega (arith, written.counted, length-append (digits c.args.x) (c.args.byte ∷ []), length-digits-most 4 c.args.x (omega arith) (omega arith)))
