-- `group_property::put_violations` meets its contract. The loop has written the frames passed.

use Rattle.clause_writer.proofs.Turns.{Turns}
use Rattle.group_property.proofs.Violations.{violation}
use Rattle.group_property.proofs.put_violations.Given as goal

abbrev pub invariant-loop-i : goal.invariant-loop-i
invariant-loop-i l = Turns l.i-end 1 (violation l.numbering l.p) l.initial.out l.out l.i l.at
