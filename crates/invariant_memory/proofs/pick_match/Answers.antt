-- `invariant_memory::pick_match` meets its contract.

use Prim.Native.Nat.{◌+◌, ◌*◌}
use native.Mathlib.Omega.{arith}
use mathlib.Core.Path.{◌≡◌, ◌∙◌}
use Rattle.invariant_axioms.specs.Laws.{match_pick}
use Rattle.invariant_memory.proofs.pick_match.Goals as goal

pub returns : goal.returns
unfolding match_pick
returns c =
    let place : 32 * c.args.y + (c.args.i + 2) ≡ 32 * c.args.y + c.args.i + 2 = omega arith in
    c.pick.ensures
    ∙ rw (
      c.no_law.ensures,
      c.where_false.ensures,
      c.false_term.ensures,
      c.where_true.ensures,
      c.same.ensures,
      c.true_term.ensures,
      c.match_term-none.ensures,
      c.match_term-next.ensures,
      place,
      c.match_term-here.ensures,
      c.agreeing-agree.ensures,
      c.code_term.ensures,
    )
