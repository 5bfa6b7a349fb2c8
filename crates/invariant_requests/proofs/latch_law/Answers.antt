-- `invariant_requests::latch_law` meets its contract.

use native.Mathlib.Omega.{arith}
use mathlib.Core.Path.{◌≡◌, ◌∙◌}
use borrow.Author.Tests.{lt-ltb, le-ltb}
use Rattle.model.specs.Netlist.{latch_wire}
use Rattle.netlist.specs.NetOf.{net_of, alone}
use Rattle.invariant_axioms.specs.Laws.{latch_law}
use Rattle.invariant_requests.proofs.latch_law.Goals as goal

pub offset-wire-requires : goal.offset-wire-requires
unfolding net_of
offset-wire-requires c =
    omega (arith, c.first_latch_wire.ensures, c.requires.0.inputs-fit)

pub returns-then-l-net : goal.returns-then-l-net
unfolding latch_law net_of
returns-then-l-net c =
    let is : c.offset-wire.result.0 ≡ latch_wire (alone c.args.net) c.args.l = omega (arith, c.offset-wire.ensures, c.first_latch_wire.ensures) in
    c.same.ensures
    ∙ rw (
      c.bit_term.ensures.0,
      c.wire_term-own.ensures,
      is,
      c.requires.1,
      lt-ltb c.args.l c.args.net.latches c.if-l-net.true,
    )

pub returns : goal.returns
unfolding latch_law net_of
returns c =
    c.no_law.ensures ∙ rw (le-ltb c.args.l c.args.net.latches (omega arith))
