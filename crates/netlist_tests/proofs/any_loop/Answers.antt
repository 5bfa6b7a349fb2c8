-- `netlist_tests::any_loop` meets its contract: the lines are those of the ports, one by one.

use Prim.Native.Nat.{ℕ, ◌/◌, ◌≤◌, ◌<◌}
use mathlib.Core.Path.{sym}
use mathlib.Core.Bool.{or-false}
use native.Mathlib.Omega.{arith}
use borrow.Author.Tests.{lt-ltb, le-ltb}
use Rattle.model.specs.Netlist.{IsPort, port}
use Rattle.model.specs.Acceptance.{WithinLimits}
use Rattle.model.proofs.Ports.{first-port, second-port}
use Rattle.netlist.specs.NetOf.{net_of, alone}
use Rattle.netlist.specs.declared.Netlist.{Netlist}
use Rattle.netlist_tests.proofs.Dependence.{any_line-ports}
use Rattle.netlist_tests.proofs.any_loop.Goals as goal

-- the wires of a port are within the table
wires-within : (r : Netlist) → WithinLimits (alone r) → (p : ℕ) → IsPort (alone r) p
    → (r.m ≤ 12) × ((t : ℕ) → t < r.m → (port (alone r) p).address t / 2 ≤ 600) × ((port (alone r) p).RE / 2 ≤ 600)
unfolding net_of
wires-within r h p is = (
  omega (arith, h.sizes),
  λ t b. omega (arith, h.codes.address-fits p is t b, h.sizes),
  omega (arith, h.codes.RE-fits p is, h.sizes),
)

pub any_dependent-any-requires : goal.any_dependent-any-requires
unfolding net_of
any_dependent-any-requires c =
    let net = c.args.net in
    wires-within net c.requires 1 (first-port (alone net))

pub any_dependent-requires : goal.any_dependent-requires
unfolding net_of
any_dependent-requires c =
    let net = c.args.net in
    wires-within net c.requires 2 (second-port (alone net) c.if-net-gt0.true)

pub returns-then-net-gt0 : goal.returns-then-net-gt0
unfolding net_of
returns-then-net-gt0 c =
    rw (any_line-ports (alone c.args.net), c.any_dependent-any.ensures, c.any_dependent.ensures, lt-ltb _ _ c.if-net-gt0.true)

pub returns : goal.returns
unfolding net_of
returns c =
    rw (any_line-ports (alone c.args.net), c.any_dependent-any.ensures, le-ltb _ _ c.if-net-gt0.false)
    (sym (or-false _))
