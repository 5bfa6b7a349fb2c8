-- `group_pair_address::put_all_bits` meets its contract: the literals of the bits, then the last, then the end mark.

use Prim.Native.Nat.{◌+◌}
use native.Mathlib.Omega.{arith}
use borrow.Author.Rules.{rules}
use Rattle.model.specs.Variables.{pair_literals}
use Rattle.clause_variables.proofs.Room.{numbered}
use Rattle.clause_writer.proofs.Wrote.{wrote_then, clause-ended, end-most}
use Rattle.group_pair_address.proofs.BitsOf.{all-bits-kept, all-bits-none}
use Rattle.group_pair_address.proofs.put_all_bits.Goals as goal

pub in_pair-address_equal-requires : goal.in_pair-address_equal-requires
in_pair-address_equal-requires c = search (rules, numbered)

pub returns : goal.returns
unfolding pair_literals
returns c =
    let unequal = c.put_unequal_bits-a.ensures in
    let last = c.put_literal.ensures in
    let equal = rw (c.in_pair-address_equal.ensures.literal, c.pair_base.ensures) at last.0 in
    let end = c.put_end.ensures.0 in (
      clause-ended _ (all-bits-none c.args.net c.args.port c.args.j c.args.i c.args.net.m) (rw all-bits-kept (wrote_then unequal.0 equal)) end,
      omega (arith, end-most {most = c.args.net.m + 1} end (omega (arith, unequal.1, last.1)) (omega arith)),
    )
