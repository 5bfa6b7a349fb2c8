-- `group_closing::put_sources` meets its contract. The loop has written S of the frames passed.

use Rattle.clause_writer.proofs.Turns.{Turns}
use Rattle.group_closing.proofs.OfClosing.{source_at}
use Rattle.group_closing.proofs.put_sources.Given as goal

abbrev pub invariant-loop-j : goal.invariant-loop-j
invariant-loop-j l = Turns l.i 1 (source_at l.q l.stride l.offset) l.initial.out l.out l.j l.at
