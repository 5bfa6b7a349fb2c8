-- `invariant_requests::gate_law` meets its contract.

use native.Mathlib.Omega.{arith}
use mathlib.Core.Path.{◌≡◌, ◌∙◌}
use borrow.Author.Tests.{lt-ltb, le-ltb}
use Rattle.model.specs.Netlist.{gate_wire}
use Rattle.netlist.specs.NetOf.{net_of, alone}
use Rattle.invariant_axioms.specs.Laws.{gate_law}
use Rattle.invariant_terms.specs.StateBits.{state_count}
use Rattle.invariant_requests.proofs.gate_law.Goals as goal

pub bounds-gates-at : goal.bounds-gates-at
unfolding net_of
bounds-gates-at c =
    omega arith

pub bounds-gates-at-then-g-net : goal.bounds-gates-at-then-g-net
unfolding net_of
bounds-gates-at-then-g-net c =
    omega arith

pub offset-wire-requires : goal.offset-wire-requires
unfolding net_of
offset-wire-requires c =
    omega (arith, c.first_gate_wire.ensures, c.requires.0.wires-fit)

pub returns-then-g-net : goal.returns-then-g-net
unfolding gate_law net_of state_count
returns-then-g-net c =
    let is : c.offset-wire.result.0 ≡ gate_wire (alone c.args.net) c.args.g = omega (arith, c.offset-wire.ensures, c.first_gate_wire.ensures) in
    c.pick.ensures
    ∙ rw (
      c.where_false-then-g-net.ensures,
      c.where_true-then-g-net.ensures,
      c.where_false.ensures,
      c.where_true.ensures,
      c.false_term-no.ensures,
      c.wire_term-own.ensures,
      is,
      c.code_term-right.ensures,
      c.code_term-left.ensures,
      c.requires.1,
      lt-ltb c.args.g c.args.net.gates c.if-g-net.true,
    )

pub returns : goal.returns
unfolding gate_law net_of state_count
returns c =
    c.no_law.ensures ∙ rw (le-ltb c.args.g c.args.net.gates (omega arith))
