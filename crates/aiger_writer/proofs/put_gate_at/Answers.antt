-- `aiger_writer::put_gate_at` meets its contract.

use Prim.Native.Nat.{◌*◌, ◌<◌}
use native.Mathlib.Omega.{arith}
use Rattle.netlist.specs.NetOf.{first_at, second_at}
use Rattle.aiger_ordered.proofs.OrderedAig.{code_below}
use Rattle.aiger_writer.specs.Parts.{own_in}
use Rattle.aiger_writer.proofs.put_gate_at.Goals as goal
use Rattle.aiger_writer.proofs.put_gate_at.Goals.{After-file_code-right}

-- both codes stay below those of the gate's own variable
module _ (c : After-file_code-right) where
  left_below : c.file_code-left.result.0 < 2 * own_in c.args.order c.args.g
  left_below =
      rw c.file_code-left.ensures.0
      (code_below c.args.order (own_in c.args.order c.args.g) (first_at c.args.gates.now c.args.g) (omega arith) c.requires.1)

  right-below : c.file_code-right.result.0 < 2 * own_in c.args.order c.args.g
  right-below =
      rw c.file_code-right.ensures.0
      (code_below c.args.order (own_in c.args.order c.args.g) (second_at c.args.gates.now c.args.g) (omega arith) c.requires.2)

pub put_gate-requires : goal.put_gate-requires
put_gate-requires c =
    (omega (arith, c.requires.0), right-below (goal.at.put_gate-requires c).After-file_code-right, omega (arith, c.if-left-right.true), c.requires.3)

pub put_gate-requires-2 : goal.put_gate-requires-2
put_gate-requires-2 c =
    (omega (arith, c.requires.0), left_below (goal.at.put_gate-requires-2 c).After-file_code-right, omega (arith, c.if-left-right.false), c.requires.3)
