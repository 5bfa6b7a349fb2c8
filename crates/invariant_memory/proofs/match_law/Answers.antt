-- `invariant_memory::match_law` meets its contract.

use Prim.Native.Nat.{◌/◌, ◌%◌}
use native.Mathlib.Numerals.{add-one}
use native.Mathlib.Omega.{arith}
use mathlib.Core.Path.{ap, ◌∙◌}
use borrow.Author.Tests.{lt-ltb, le-ltb, le-leb, lt-leb}
use Rattle.model.specs.Netlist as M
use Rattle.clause_variables.specs.PortOf.{port_of}
use Rattle.netlist.specs.NetOf.{code_of, net_of}
use Rattle.invariant_axioms.specs.Laws.{match_law}
use Rattle.invariant_memory.proofs.match_law.Goals as goal

pub returns-then-net-q : goal.returns-then-net-q
unfolding match_law net_of
returns-then-net-q c =
    c.no_law.ensures ∙ rw (lt-leb (c.args.i % 2) c.args.net.second_port c.if-net-q.true)

pub returns-then-net-t : goal.returns-then-net-t
unfolding match_law net_of
returns-then-net-t c =
    c.no_law-then-net-t.ensures ∙ rw (le-leb (c.args.i % 2) c.args.net.second_port (omega (arith, c.if-net-q.false)), le-ltb (c.args.i / 2) c.args.net.m c.if-net-t.true)

pub returns-then-y-ge4096 : goal.returns-then-y-ge4096
unfolding match_law net_of
returns-then-y-ge4096 c =
    c.no_law-then-y-ge4096.ensures ∙ rw (le-leb (c.args.i % 2) c.args.net.second_port (omega (arith, c.if-net-q.false)), lt-ltb (c.args.i / 2) c.args.net.m (omega (arith, c.if-net-t.false)), le-ltb c.args.y 4096 c.if-y-ge4096.true)

pub port_of-port-requires : goal.port_of-port-requires
unfolding net_of
port_of-port-requires c =
    (c.requires.0, (omega arith, omega (arith, c.if-net-q.false)))

pub bounds-port-t : goal.bounds-port-t
unfolding net_of
bounds-port-t c =
    omega (arith, c.if-net-t.false, c.requires.0.m-most)

pub pick_match-requires : goal.pick_match-requires
unfolding net_of
pick_match-requires c =
    (c.requires.2, omega (arith, c.if-net-t.false, c.requires.0.m-most), omega (arith, c.if-y-ge4096.false))

pub returns : goal.returns
unfolding match_law net_of port_of code_of
returns c =
    let port = rw add-one at c.port_of-port.ensures in
    let code = ap (λ (p : M.Port). p.address (c.args.i / 2)) port in
    c.pick_match.ensures
    ∙ rw (code, c.requires.1, le-leb (c.args.i % 2) c.args.net.second_port (omega (arith, c.if-net-q.false)), lt-ltb (c.args.i / 2) c.args.net.m (omega (arith, c.if-net-t.false)), lt-ltb c.args.y 4096 (omega (arith, c.if-y-ge4096.false)))
