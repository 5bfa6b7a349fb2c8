-- `group_latches::put_resets` meets its contract. The loop has written the latches passed.

use Rattle.clause_writer.proofs.Turns.{Turns}
use Rattle.group_latches.proofs.StateOf.{reset_at}
use Rattle.group_latches.proofs.put_resets.Given as goal

abbrev pub invariant-loop-l : goal.invariant-loop-l
invariant-loop-l lo = Turns lo.l-end 2 (reset_at lo.b lo.first.0 lo.latches) lo.initial.out lo.out lo.l lo.at
