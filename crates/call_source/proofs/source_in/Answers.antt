-- `call_source::source_in` meets its contract: each arm answers the literal of its kind.

use native.Mathlib.Omega.{arith}
use Rattle.model.specs.Variables.{pair_literals, selected}
use Rattle.model.proofs.Ports.{variables-within}
use Rattle.literals.specs.Lit.{literal_of}
use Rattle.netlist.specs.NetOf.{alone}
use Rattle.call_source.specs.Sources.{source_in}
use Rattle.call_source.proofs.Sources.{pair-there, closing-there, closing-RE}
use Rattle.call_source.proofs.source_in.Goals as goal

pub port_of-requires : goal.port_of-requires
port_of-requires c =
    let p = c.requires in
    (p.0, (pair-there (alone c.args.net) c.args.depth c.in-Pair.is p.2).2)

pub of_pair-requires : goal.of_pair-requires
of_pair-requires c =
    let p = c.requires in
    let there = pair-there (alone c.args.net) c.args.depth c.in-Pair.is p.2 in
    let within = variables-within (alone c.args.net) _ there.2 in
    (p.0, rw c.port_of.ensures (omega (arith, within)), there.1, omega (arith, there.0, p.1), omega arith, omega arith)

pub of_closing-requires : goal.of_closing-requires
of_closing-requires c =
    let p = c.requires in
    let e = c.in-Closing.is in
    let there = closing-there (alone c.args.net) c.args.depth e p.2 in
    (p.0, there.1, closing-RE (alone c.args.net) e p.4, omega (arith, there.0, p.1))

pub returns-in-Wires : goal.returns-in-Wires
unfolding source_in literal_of
returns-in-Wires c = record { literal = rw c.in-Wires.is; number = tt }

pub returns-in-Pair : goal.returns-in-Pair
unfolding source_in pair_literals selected
returns-in-Pair c =
    rw c.in-Pair.is (rw c.port_of.ensures at c.of_pair.ensures)

pub returns-in-Closing : goal.returns-in-Closing
returns-in-Closing c = rw c.in-Closing.is c.of_closing.ensures

pub returns-in-Property : goal.returns-in-Property
unfolding source_in literal_of
returns-in-Property c = record { literal = rw c.in-Property.is; number = tt }
