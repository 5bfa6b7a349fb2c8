-- `group_closing::put_initial_reads` meets its contract. The loop has written the bits passed.

use Rattle.literals.specs.Lit.{literal_of}
use Rattle.clause_writer.proofs.Turns.{Turns}
use Rattle.group_closing.proofs.OfClosing.{initial_bit}
use Rattle.group_closing.proofs.put_initial_reads.Given as goal

abbrev pub invariant-loop-t : goal.invariant-loop-t
invariant-loop-t l = Turns l.t-end 8 (initial_bit (literal_of l.none_since) l.reading l.first.0 l.read l.word) l.initial.out l.out l.t l.at
