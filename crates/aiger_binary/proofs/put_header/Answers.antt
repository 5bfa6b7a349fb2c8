-- `aiger_binary::put_header` meets its contract: the word, the variables, and the other numbers.

use Prim.Native.Nat.{◌+◌}
use native.Mathlib.Omega.{arith}
use Rattle.model.proofs.Wrote.{wrote_then}
use Rattle.aiger_binary.proofs.BinaryText.{header-text}
use Rattle.aiger_binary.proofs.put_header.Goals as goal

pub returns : goal.returns
returns c = (
  rw (header-text (c.args.inputs + c.args.latches + c.args.gates) c.args.inputs c.args.latches c.args.outputs c.args.gates)
      at (wrote_then _ _ _ _ _ _ _ (wrote_then _ _ _ _ _ _ _ c.write_word-word.ensures c.put_number.ensures.0) c.put_counts.ensures.0),
  omega arith,
)
