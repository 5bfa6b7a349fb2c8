-- `call_source::of_closing` meets its contract.

use mathlib.Core.Path.{◌≡◌, ap}
use native.Mathlib.Omega.{arith}
use Rattle.model.specs.Netlist.{port}
use Rattle.model.specs.Variables.{closing_literals}
use Rattle.model.proofs.Ports.{variables-within}
use Rattle.model.proofs.Variables.{none_since-last, none_since-earlier}
use Rattle.netlist.specs.NetOf.{alone}
use Rattle.clause_variables.specs.PortOf.{port_of}
use Rattle.clause_variables.proofs.Room.{code-numbered}
use Rattle.call_source.specs.Sources.{source_in}
use Rattle.call_source.proofs.of_closing.Goals as goal
use Rattle.call_source.proofs.of_closing.Goals.{After-port_of-port}

-- RE of the port is the model's
RE-is : (c : After-port_of-port) → c.port_of-port.result.re.0 ≡ (port (alone c.args.net) c.args.number).RE
unfolding port_of
RE-is c = ap (λ p. p.RE) c.port_of-port.ensures

pub in_frame-requires : goal.in_frame-requires
in_frame-requires c =
    let p = c.requires in
    code-numbered _ 0 _ _ c.frame_base.ensures p.0 (rw (RE-is (goal.at.in_frame-requires c).After-port_of-port) p.2) (omega arith)

pub returns-then-i-eq0 : goal.returns-then-i-eq0
unfolding source_in closing_literals
returns-then-i-eq0 c =
    let number = c.args.number in
    rw (c.if-i-eq0.true, none_since-last (alone c.args.net) (port (alone c.args.net) number) 0)
    (rw (c.frame_base.ensures, RE-is (goal.at.returns-then-i-eq0 c).After-port_of-port) at c.in_frame.ensures)

pub of_pair-requires : goal.of_pair-requires
of_pair-requires c =
    let p = c.requires in
    let later = c.if-i-eq0.false in
    let within = variables-within (alone c.args.net) c.args.number p.1 in
    (p.0, rw c.port_of-port.ensures (omega (arith, within)), omega arith, p.3, omega arith, omega arith)

pub returns : goal.returns
unfolding source_in closing_literals
returns c =
    let later = c.if-i-eq0.false in
    rw (none_since-earlier (alone c.args.net) (port (alone c.args.net) c.args.number) 0 c.args.i (omega arith))
    (rw c.port_of-port.ensures at c.of_pair.ensures)
