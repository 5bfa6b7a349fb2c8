-- `aiger_writer::put_nexts` meets its contract. The loop has written the lines of the latches before l.

use Prim.Native.Nat.{◌*◌, ◌≤◌}
use Rattle.model.specs.Gather.{gather}
use Rattle.model.specs.Wrote.{Wrote}
use Rattle.aiger_writer.specs.Parts.{next_text}
use Rattle.aiger_writer.proofs.put_nexts.Given as goal

abbrev pub invariant-loop-l : goal.invariant-loop-l
invariant-loop-l lo =
    (lo.at ≤ lo.l * 5) × Wrote (gather lo.l (next_text lo.order lo.latches)) lo.initial.out lo.out lo.at
