-- `clause_tseitin::put_bit_of` meets its contract: two equalities.

use borrow.Author.Rules.{rules}
use Rattle.clause_writer.proofs.Wrote.{wrote-clauses}
use Rattle.clause_tseitin.proofs.BitParts.{bit-parts}
use Rattle.clause_tseitin.proofs.put_bit_of.Goals as goal

pub returns : goal.returns
returns g c = (
  rw bit-parts
      (rw (c.inverse-not_x.ensures.literal, c.inverse.ensures.literal, c.inverse-2.ensures.literal)
      at (wrote-clauses _ _ c.put_same_of-i.ensures.0 c.put_same_of.ensures.0)),
  search rules,
)
