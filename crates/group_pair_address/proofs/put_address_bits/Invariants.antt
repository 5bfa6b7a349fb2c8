-- `group_pair_address::put_address_bits` meets its contract. The loop has written the bits passed.

use Rattle.clause_writer.proofs.Turns.{Turns}
use Rattle.group_pair_address.proofs.BitsOf.{address_bit}
use Rattle.group_pair_address.proofs.put_address_bits.Given as goal

abbrev pub invariant-loop-t : goal.invariant-loop-t
invariant-loop-t l = Turns l.t-end 16 (address_bit l.q l.writing l.reading l.net l.port) l.initial.out l.out l.t l.at
