-- `aiger_writer::put_outputs` meets its contract. The loop has written the lines of the outputs before o.

use Prim.Native.Nat.{◌*◌, ◌≤◌}
use Rattle.model.specs.Gather.{gather}
use Rattle.model.specs.Wrote.{Wrote}
use Rattle.netlist.specs.NetOf.{alone}
use Rattle.aiger_writer.specs.Parts.{output_text}
use Rattle.aiger_writer.proofs.put_outputs.Given as goal

abbrev pub invariant-loop-o : goal.invariant-loop-o
invariant-loop-o l =
    (l.at ≤ l.o * 5) × Wrote (gather l.o (output_text l.order (alone l.net))) l.initial.out l.out l.at
