-- `invariant_memory::pick_read` meets its contract.

use Prim.Native.Nat.{◌+◌, ◌*◌}
use native.Mathlib.Omega.{arith}
use mathlib.Core.Path.{◌≡◌, ◌∙◌}
use Rattle.netlist.specs.NetOf.{net_of}
use Rattle.invariant_axioms.specs.Laws.{read_pick}
use Rattle.invariant_memory.proofs.pick_read.Goals as goal

pub overflow_mul-net : goal.overflow_mul-net
unfolding net_of
overflow_mul-net c =
    record { fits = omega (arith, c.requires.0.m-most) }

pub overflow_add-net : goal.overflow_add-net
unfolding net_of
overflow_add-net c =
    let pre = c.requires in
    record { fits = omega (arith, pre.0.m-most, pre.0.kind_fits, pre.3) }

pub match_term-hit-requires : goal.match_term-hit-requires
unfolding net_of
match_term-hit-requires c =
    let pre = c.requires in
    (pre.2, pre.5, omega (arith, pre.0.m-most, pre.0.kind_fits, pre.3))

pub returns : goal.returns
unfolding read_pick net_of
returns c =
    let place : 32 * c.args.x + (2 * c.args.net.m + c.args.q) ≡ 32 * c.args.x + 2 * c.args.net.m + c.args.q = omega arith in
    c.pick.ensures
    ∙ rw (
      c.no_law.ensures,
      c.same.ensures,
      c.where_both.ensures,
      c.where_false.ensures,
      c.word_term-word.ensures,
      c.match_term-hit.ensures,
      place,
      c.enable-re.ensures,
      c.bit_term-kept.ensures.0,
      c.bit_term-held.ensures.0,
      c.held_bit-bit.ensures.0,
      c.read_wire-wire.ensures,
      c.requires.1,
    )
