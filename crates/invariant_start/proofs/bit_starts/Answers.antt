-- `invariant_start::bit_starts` meets its contract.

use Prim.Native.Nat.{◌+◌, ◌-◌}
use native.Mathlib.Omega.{arith}
use mathlib.Core.Path.{◌∙◌}
use borrow.Author.Tests.{lt-ltb, le-ltb}
use native.Mathlib.Nat.{mod-lt}
use Rattle.model.specs.Netlist.{read_bits}
use Rattle.model.proofs.Ports.{second-most}
use Rattle.netlist.specs.NetOf.{net_of, alone}
use Rattle.invariant_formula.specs.AtStart.{bit_starts}
use Rattle.invariant_start.proofs.bit_starts.Goals as goal

pub bounds-latches-j : goal.bounds-latches-j
unfolding net_of
bounds-latches-j c =
    omega arith

pub returns-then-j-net : goal.returns-then-j-net
unfolding net_of bit_starts
returns-then-j-net c =
    rw (lt-ltb c.args.j c.args.net.latches c.if-j-net.true)

pub overflow_add-net : goal.overflow_add-net
unfolding net_of
overflow_add-net c =
    record { fits = omega (arith, c.read_count-reads.ensures, second-most c.requires c.args.net.n) }

pub returns-then-j-net-2 : goal.returns-then-j-net-2
unfolding net_of bit_starts
returns-then-j-net-2 c =
    rw (le-ltb c.args.j c.args.net.latches (omega (arith, c.if-j-net.false)), lt-ltb c.args.j (c.args.net.latches + read_bits (alone c.args.net)) (omega (arith, c.read_count-reads.ensures, c.if-j-net-2.true)))

pub nonzero_rem-j : goal.nonzero_rem-j
unfolding net_of
nonzero_rem-j c =
    omega (arith, c.requires.n-least)

pub word_starts-requires : goal.word_starts-requires
unfolding net_of
word_starts-requires c =
    let below = mod-lt (c.args.j - c.args.net.latches - c.read_count-reads.result) c.requires.n-least in
    omega (arith, below, c.requires.n-most)

pub returns : goal.returns
unfolding net_of bit_starts
returns c =
    c.word_starts.ensures ∙ rw (c.read_count-reads.ensures, le-ltb c.args.j c.args.net.latches (omega (arith, c.if-j-net.false)), le-ltb c.args.j (c.args.net.latches + read_bits (alone c.args.net)) (omega (arith, c.read_count-reads.ensures, c.if-j-net-2.false)))
