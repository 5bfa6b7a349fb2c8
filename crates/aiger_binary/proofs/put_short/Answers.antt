-- `aiger_binary::put_short` meets its contract.

use native.Mathlib.Omega.{arith}
use Rattle.aiger_difference.proofs.Difference.{length-bytes-two}
use Rattle.aiger_binary.proofs.put_short.Goals as goal

pub put_difference-requires : goal.put_difference-requires
put_difference-requires c = omega (arith, length-bytes-two c.args.x (omega arith))

pub returns : goal.returns
returns c =
    let written = c.put_difference.ensures in
    (written, omega (arith, written.counted, length-bytes-two c.args.x (omega arith)))
