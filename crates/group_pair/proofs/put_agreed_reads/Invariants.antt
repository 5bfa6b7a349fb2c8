-- `group_pair::put_agreed_reads` meets its contract. The loop has written the bits passed.

use Rattle.literals.specs.Lit.{literal_of}
use Rattle.clause_writer.proofs.Turns.{Turns}
use Rattle.group_pair.proofs.OfPair.{agreed_bit}
use Rattle.group_pair.proofs.put_agreed_reads.Given as goal

abbrev pub invariant-loop-t : goal.invariant-loop-t
invariant-loop-t l = Turns l.t-end 12 (agreed_bit (literal_of l.address_equal) (literal_of l.earlier) (literal_of l.later) l.reading l.before l.first.0 l.read) l.initial.out l.out l.t l.at
