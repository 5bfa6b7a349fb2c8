-- `group_pair_address::put_unequal_bits` meets its contract. The loop has written the bits passed.

use Rattle.clause_writer.proofs.Turns.{Turns}
use Rattle.group_pair_address.proofs.BitsOf.{unequal_bit}
use Rattle.group_pair_address.proofs.put_unequal_bits.Given as goal

abbrev pub invariant-loop-t : goal.invariant-loop-t
invariant-loop-t l = Turns l.t-end 1 (unequal_bit l.q) l.initial.out l.out l.t l.at
