-- `aiger_definitions::look_at` meets its contract.

use borrow.Author.Tests.{le-ltb, lt-ltb}
use Rattle.aiger_definitions.specs.Blocks.{looked_at}
use Rattle.aiger_definitions.proofs.look_at.Goals as goal
use Rattle.aiger_definitions.proofs.look_at.Goals.{else-fault-via-then-fault+else-line-found, else-fault-via-else-fault}

pub returns-then-line-found : goal.returns-then-line-found
unfolding looked_at
returns-then-line-found c = rw (c.nearer-next.ensures, c.nearer.ensures, ← c.is_found.ensures, ← c.is_found-2.ensures, c.if-fault.true, lt-ltb _ _ c.if-line-found.true)

pub returns : goal.returns
unfolding looked_at
returns c =
    elim c.else-fault.branch [
      | else-fault-via-then-fault+else-line-found w ↦
          rw (c.nearer-next.ensures, c.nearer.ensures, ← c.is_found.ensures, ← c.is_found-2.ensures, w.if-fault.true, le-ltb _ _ w.if-line-found.false)
      | else-fault-via-else-fault w ↦ rw (c.nearer-next.ensures, c.nearer.ensures, ← c.is_found.ensures, ← c.is_found-2.ensures, w.if-fault.false)
    ]
