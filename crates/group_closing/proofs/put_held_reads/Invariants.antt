-- `group_closing::put_held_reads` meets its contract. The loop has written the bits passed.

use Rattle.literals.specs.Lit.{literal_of}
use Rattle.clause_writer.proofs.Turns.{Turns}
use Rattle.group_closing.proofs.OfClosing.{held_bit}
use Rattle.group_closing.proofs.put_held_reads.Given as goal

abbrev pub invariant-loop-t : goal.invariant-loop-t
invariant-loop-t l = Turns l.t-end 8 (held_bit (literal_of l.idle) l.reading l.before l.first.0 l.read) l.initial.out l.out l.t l.at
