-- `group_latches::put_latches` meets its contract. The loop has written the latches passed.

use Rattle.clause_writer.proofs.Turns.{Turns}
use Rattle.group_latches.proofs.StateOf.{latch_at}
use Rattle.group_latches.proofs.put_latches.Given as goal

abbrev pub invariant-loop-l : goal.invariant-loop-l
invariant-loop-l lo = Turns lo.l-end 6 (latch_at lo.b lo.first.0 lo.before lo.latches) lo.initial.out lo.out lo.l lo.at
