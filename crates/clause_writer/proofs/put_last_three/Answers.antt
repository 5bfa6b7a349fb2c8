-- `clause_writer::put_last_three` meets its contract: the literals, then the end.

use Prim.Native.Nat.{◌+◌}
use mathlib.Core.List.{[], ◌∷◌}
use native.Mathlib.Omega.{arith}
use Rattle.literals.specs.Lit.{literal_of}
use Rattle.clause_writer.proofs.Wrote.{wrote_then, begun-ended, end-most, kept-three}
use Rattle.clause_writer.proofs.put_last_three.Goals as goal

pub returns : goal.returns
returns c =
    let first = c.put_literal-i.ensures in
    let second = c.put_literal.ensures in
    let third = c.put_literal-2.ensures in
    let end = c.put_end.ensures.0 in
    let most = end-most {most = c.args.begun + 3} end (omega (arith, first.1, second.1, third.1)) (omega arith) in
    (begun-ended c.args.begun (literal_of c.args.a ∷ literal_of c.args.b ∷ literal_of c.args.c ∷ []) (rw kept-three (wrote_then (wrote_then first.0 second.0) third.0)) end, omega (arith, most))
