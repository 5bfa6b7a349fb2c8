-- `aiger_writer::put_gates` meets its contract. The loop has written the gates before g.

use Prim.Native.Nat.{◌+◌, ◌≤◌}
use mathlib.Core.Path.{refl}
use native.Mathlib.Numerals.{add-one}
use native.Mathlib.Omega.{arith}
use lib.ListN.{length}
use Rattle.model.specs.Gather.{gather}
use Rattle.model.proofs.Wrote.{wrote_then}
use Rattle.aiger_writer.specs.Parts.{gate_text_at}
use Rattle.aiger_writer.proofs.put_gates.Goals as goal
use Rattle.aiger_writer.proofs.put_gates.Goals.{In-loop-g}

pub loop-g-init : goal.loop-g-init
unfolding gather
loop-g-init c = (omega arith, record { counted = refl; leaves = refl })

-- there is room for one more
room : (c : In-loop-g) → c.loop-g.at + 4 ≤ length c.loop-g.out
room c =
    omega (arith, c.loop-g.invariant.0, c.requires.1)

pub loop-g-preserved : goal.loop-g-preserved
unfolding gather
loop-g-preserved c =
    let text = gate_text_at c.args.order c.args.gates.now in (
      omega (arith, c.loop-g.invariant.0, c.put_gate_at-at.ensures.1),
      rw add-one
          (wrote_then (gather c.loop-g.g text) (text c.loop-g.g) c.args.out.now c.loop-g.out c.put_gate_at-at.new.out c.loop-g.at c.put_gate_at-at.result c.loop-g.invariant.1 c.put_gate_at-at.ensures.0),
    )
