-- `aiger_writer::put_nexts` meets its contract. The loop has written the lines of the latches before l.

use Prim.Native.Nat.{◌+◌, ◌≤◌}
use mathlib.Core.Path.{refl}
use native.Mathlib.Numerals.{add-one}
use native.Mathlib.Omega.{arith}
use lib.ListN.{length}
use Rattle.model.specs.Gather.{gather}
use Rattle.model.proofs.Wrote.{wrote_then}
use Rattle.aiger_writer.specs.Parts.{next_text}
use Rattle.aiger_writer.proofs.put_nexts.Goals as goal
use Rattle.aiger_writer.proofs.put_nexts.Goals.{In-loop-l}

pub loop-l-init : goal.loop-l-init
unfolding gather
loop-l-init c = (omega arith, record { counted = refl; leaves = refl })

-- there is room for one more
room : (c : In-loop-l) → c.loop-l.at + 5 ≤ length c.loop-l.out
room c =
    omega (arith, c.loop-l.invariant.0, c.requires.3)

pub loop-l-preserved : goal.loop-l-preserved
unfolding gather
loop-l-preserved c =
    let text = next_text c.args.order c.args.latches.now in (
      omega (arith, c.loop-l.invariant.0, c.put_next-at.ensures.1),
      rw add-one
          (wrote_then (gather c.loop-l.l text) (text c.loop-l.l) c.args.out.now c.loop-l.out c.put_next-at.new.out c.loop-l.at c.put_next-at.result c.loop-l.invariant.1 c.put_next-at.ensures.0),
    )
