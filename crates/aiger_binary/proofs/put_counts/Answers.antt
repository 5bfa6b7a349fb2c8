-- `aiger_binary::put_counts` meets its contract: four numbers, one behind the other.

use native.Mathlib.Omega.{arith}
use Rattle.model.proofs.Wrote.{wrote_then}
use Rattle.aiger_binary.proofs.BinaryText.{counts-text}
use Rattle.aiger_binary.proofs.put_counts.Goals as goal

pub returns : goal.returns
returns c = (
  rw (counts-text c.args.inputs c.args.latches c.args.outputs c.args.gates)
      at (wrote_then _ _ _ _ _ _ _ (wrote_then _ _ _ _ _ _ _ (wrote_then _ _ _ _ _ _ _ c.put_number-first.ensures.0 c.put_number.ensures.0) c.put_number-2.ensures.0) c.put_number-3.ensures.0),
  omega arith,
)
