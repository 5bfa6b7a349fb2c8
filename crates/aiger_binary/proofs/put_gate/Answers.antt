-- `aiger_binary::put_gate` meets its contract: one difference, and the other behind it.

use native.Mathlib.Omega.{arith}
use Rattle.model.proofs.Wrote.{wrote_then}
use Rattle.aiger_binary.specs.BinaryText.{gate_text}
use Rattle.aiger_binary.proofs.put_gate.Goals as goal

pub returns : goal.returns
unfolding gate_text
returns c =
    (wrote_then _ _ _ _ _ _ _ c.put_short-first.ensures.0 c.put_short.ensures.0, omega arith)
