-- `call_source::test_source` meets its contract: the first test that refuses answers.

use Prim.Native.Nat.{◌+◌, ◌*◌}
use mathlib.Core.Path.{◌≡◌, sym, ◌∙◌, ap}
use mathlib.Core.Bool.{not}
use lib.Dec.{leb, ltb}
use borrow.Author.Tests.{leb-true}
use Rattle.std.proofs.lemmas.Result.{err_from_is_err_and}
use Rattle.model.specs.Netlist.{IsPort, port, ports, last_wire}
use Rattle.model.specs.Groups.{in_depth}
use Rattle.model.specs.Acceptance.{SizesFit}
use Rattle.model.proofs.Booleans.{and-true}
use Rattle.refusals.specs.Tests.{refuse_if, ◌then◌}
use Rattle.refusals.specs.declared.Refusal.TheVariants.{NoSuchGroup, CodeOutside}
use Rattle.netlist.specs.NetOf.{alone}
use Rattle.clause_variables.specs.PortOf.{port_of}
use Rattle.call_position.proofs.Literals.{numbering-shown}
use Rattle.call_source.specs.Sources.{port_in, source_verdict}
use Rattle.call_source.proofs.Sources.{port-there}
use Rattle.call_source.proofs.test_source.Goals as goal
use Rattle.call_source.proofs.test_source.Goals.{After-has_source, After-is_above, Else-not-has_source, In_ok-test_numbering}

pub returns-in_err-test_numbering : goal.returns-in_err-test_numbering
unfolding source_verdict ◌then◌
returns-in_err-test_numbering c =
    let p = err_from_is_err_and c.from_residual.result c.from_residual.ensures.1 in
    rw (p.1, p.2, sym c.in_err-test_numbering.ensures)

-- the sizes fit
sizes : (c : In_ok-test_numbering) → SizesFit (alone c.args.net)
sizes c = (numbering-shown _ _ (sym c.in_ok-test_numbering.ensures)).0

pub port_count-requires : goal.port_count-requires
port_count-requires c = sizes c

-- the verdict, once the sizes and the depth have passed
behind : (c : After-has_source) →
    source_verdict (alone c.args.net) c.args.depth c.args.group
    ≡ (refuse_if (not c.has_source.result) NoSuchGroup 0 then refuse_if (ltb (2 * last_wire (alone c.args.net) + 1) (port (alone c.args.net) (port_in c.args.group)).RE) CodeOutside 0)
unfolding source_verdict ◌then◌
behind c =
    rw (sym c.in_ok-test_numbering.ensures, c.has_source.ensures, c.port_count.ensures)

pub returns-then-not-has_source : goal.returns-then-not-has_source
unfolding ◌then◌
returns-then-not-has_source c = sym (behind (goal.at.returns-then-not-has_source c).After-has_source ∙ rw c.if-not-has_source.true)

-- the group is there and has a port
there : (c : Else-not-has_source) →
    IsPort (alone c.args.net) (port_in c.args.group)
there c =
    let h = rw (c.has_source.ensures, c.port_count.ensures) at c.if-not-has_source.false in
    let both = (and-true (in_depth (ports (alone c.args.net)) c.args.depth c.args.group) (leb 1 (port_in c.args.group))).0 h in
    port-there (alone c.args.net) c.args.depth c.args.group both.0 (leb-true 1 (port_in c.args.group) both.1)

pub port_of-requires : goal.port_of-requires
port_of-requires c = (sizes (goal.at.port_of-requires c).In_ok-test_numbering, rw c.port_in.ensures (there (goal.at.port_of-requires c).Else-not-has_source))

pub last_wire-requires : goal.last_wire-requires
last_wire-requires c = sizes (goal.at.last_wire-requires c).In_ok-test_numbering

-- only the test of RE is left
left : (c : After-is_above) →
    source_verdict (alone c.args.net) c.args.depth c.args.group
    ≡ (refuse_if (not c.has_source.result) NoSuchGroup 0 then refuse_if (ltb (2 * last_wire (alone c.args.net) + 1) (port (alone c.args.net) (port_in c.args.group)).RE) CodeOutside 0) →
    source_verdict (alone c.args.net) c.args.depth c.args.group ≡ refuse_if c.is_above.result CodeOutside 0
unfolding port_of ◌then◌
left c behind-it =
    rw (behind-it, c.if-not-has_source.false, c.is_above.ensures, c.last_wire.ensures, sym c.port_in.ensures)
    (ap (λ p. refuse_if (ltb (2 * last_wire (alone c.args.net) + 1) p.RE) CodeOutside 0) (sym c.port_of.ensures))

pub returns-then-is_above : goal.returns-then-is_above
returns-then-is_above c = sym (left (goal.at.returns-then-is_above c).After-is_above (behind (goal.at.returns-then-is_above c).After-has_source) ∙ rw c.if-is_above.true)

pub returns : goal.returns
returns c = sym (left (goal.at.returns c).After-is_above (behind (goal.at.returns c).After-has_source) ∙ rw c.if-is_above.false)
