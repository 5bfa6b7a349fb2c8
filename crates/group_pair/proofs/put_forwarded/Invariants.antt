-- `group_pair::put_forwarded` meets its contract. The loop has written the bits passed.

use Rattle.literals.specs.Lit.{literal_of}
use Rattle.clause_writer.proofs.Turns.{Turns}
use Rattle.group_pair.proofs.OfPair.{forwarded_bit}
use Rattle.group_pair.proofs.put_forwarded.Given as goal

abbrev pub invariant-loop-t : goal.invariant-loop-t
invariant-loop-t l = Turns l.t-end 8 (forwarded_bit (literal_of l.selected) l.reading l.first.0 l.read l.writing l.net) l.initial.out l.out l.t l.at
