-- `invariant_memory::word_law` meets its contract.

use Prim.Native.Nat.{◌^◌}
use native.Mathlib.Omega.{arith}
use mathlib.Core.Path.{◌∙◌}
use borrow.Author.Tests.{lt-ltb, le-ltb}
use Rattle.netlist.specs.NetOf.{net_of}
use Rattle.invariant_axioms.specs.Laws.{word_law}
use Rattle.invariant_memory.proofs.word_law.Goals as goal

pub returns-then-net-t : goal.returns-then-net-t
unfolding word_law net_of
returns-then-net-t c =
    c.no_law.ensures ∙ rw (le-ltb c.args.t c.args.net.n c.if-net-t.true)

pub returns-then-word_count-x : goal.returns-then-word_count-x
unfolding word_law net_of
returns-then-word_count-x c =
    c.no_law-then-word_count-x.ensures ∙ rw (lt-ltb c.args.t c.args.net.n (omega (arith, c.if-net-t.false)), le-ltb c.args.x (2 ^ c.args.net.m) (omega (arith, c.word_count.ensures.0, c.if-word_count-x.true)))

pub returns : goal.returns
unfolding word_law net_of
returns c =
    c.pick_word.ensures ∙ rw (lt-ltb c.args.t c.args.net.n (omega (arith, c.if-net-t.false)), lt-ltb c.args.x (2 ^ c.args.net.m) (omega (arith, c.word_count.ensures.0, c.if-word_count-x.false)))
