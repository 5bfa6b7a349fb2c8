-- `invariant_memory::pick_word` meets its contract.

use native.Mathlib.Omega.{arith}
use mathlib.Core.Path.{◌∙◌}
use Rattle.netlist.specs.NetOf.{code_of, net_of}
use Rattle.invariant_axioms.specs.Laws.{word_pick}
use Rattle.invariant_memory.proofs.pick_word.Goals as goal

pub overflow_mul-net : goal.overflow_mul-net
unfolding net_of
overflow_mul-net c =
    record { fits = omega (arith, c.requires.0.m-most) }

pub match_term-hit-requires : goal.match_term-hit-requires
unfolding net_of
match_term-hit-requires c =
    let pre = c.requires in
    (pre.2, pre.4, omega (arith, pre.0.m-most))

pub bounds-net-t : goal.bounds-net-t
unfolding net_of
bounds-net-t c =
    omega (arith, c.requires.0.n-most)

pub returns : goal.returns
unfolding word_pick net_of code_of
returns c =
    c.pick.ensures
    ∙ rw (
      c.no_law.ensures,
      c.where_false-2.ensures,
      c.where_false.ensures,
      c.where_both.ensures,
      c.code_term-data.ensures,
      c.code_term-we.ensures,
      c.match_term-hit.ensures,
      c.word_term-after.ensures,
      c.word_term-before.ensures,
      c.requires.1,
    )
