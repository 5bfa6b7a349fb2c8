-- `invariant_memory::read_law` meets its contract.

use Prim.Native.Nat.{◌/◌, ◌%◌, ◌^◌}
use native.Mathlib.Omega.{arith}
use mathlib.Core.Path.{◌∙◌}
use borrow.Author.Tests.{lt-ltb, le-ltb, le-leb, lt-leb}
use Rattle.netlist.specs.NetOf.{net_of}
use Rattle.invariant_axioms.specs.Laws.{read_law}
use Rattle.invariant_memory.proofs.read_law.Goals as goal

pub returns-then-net-q : goal.returns-then-net-q
unfolding read_law net_of
returns-then-net-q c =
    c.no_law.ensures ∙ rw (lt-leb (c.args.i % 2) c.args.net.second_port c.if-net-q.true)

pub returns-then-net-t : goal.returns-then-net-t
unfolding read_law net_of
returns-then-net-t c =
    c.no_law-then-net-t.ensures ∙ rw (le-leb (c.args.i % 2) c.args.net.second_port (omega (arith, c.if-net-q.false)), le-ltb (c.args.i / 2) c.args.net.n c.if-net-t.true)

pub returns-then-word_count-x : goal.returns-then-word_count-x
unfolding read_law net_of
returns-then-word_count-x c =
    c.no_law-then-word_count-x.ensures ∙ rw (le-leb (c.args.i % 2) c.args.net.second_port (omega (arith, c.if-net-q.false)), lt-ltb (c.args.i / 2) c.args.net.n (omega (arith, c.if-net-t.false)), le-ltb c.args.x (2 ^ c.args.net.m) (omega (arith, c.word_count.ensures.0, c.if-word_count-x.true)))

pub returns : goal.returns
unfolding read_law net_of
returns c =
    c.pick_read.ensures ∙ rw (le-leb (c.args.i % 2) c.args.net.second_port (omega (arith, c.if-net-q.false)), lt-ltb (c.args.i / 2) c.args.net.n (omega (arith, c.if-net-t.false)), lt-ltb c.args.x (2 ^ c.args.net.m) (omega (arith, c.word_count.ensures.0, c.if-word_count-x.false)))
