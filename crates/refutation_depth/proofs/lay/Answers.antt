-- `refutation_depth::lay` meets its contract: the lemmas are written behind the formula.

use native.Mathlib.Omega.{arith}
use Rattle.model.proofs.Wrote.{wrote_then}
use Rattle.refutation_formula.proofs.WhereRoom.{wrote-put}
use Rattle.refutation_depth.proofs.lay.Goals as goal

pub returns : goal.returns
returns c = let put = c.put_formula-front.ensures.0 in
    let first = wrote-put put (omega (arith, c.requires.2)) in
    let both = wrote_then _ _ _ _ _ _ _ first c.copy_numbers.ensures in
    record { front = put.counted; store = both.leaves }
