-- `invariant_writer::put_requests` meets its contract. The loop has written the clauses of the requests passed.

use native.Mathlib.Omega.{arith}
use Rattle.clause_writer.proofs.Turns.{turns-start, turns_next, turns-end}
use Rattle.invariant_formula.specs.Formula.{requested_clause}
use Rattle.invariant_writer.proofs.put_requests.Goals as goal

pub loop-x-init : goal.loop-x-init
loop-x-init c = turns-start _ _ _ _ c.requires.1

pub loop-x-preserved : goal.loop-x-preserved
unfolding requested_clause
loop-x-preserved c =
    turns_next c.loop-x.invariant (omega arith) (rw c.requested-law.ensures at c.put_clause-at.ensures)

pub returns : goal.returns
returns c =
    turns-end c.loop-x.invariant (omega arith)
