-- `call_position::test_literal` meets its contract: the first test that refuses answers.

use mathlib.Core.Path.{◌≡◌, sym, ◌∙◌}
use Rattle.std.proofs.lemmas.Result.{err_from_is_err_and}
use Rattle.refusals.specs.Tests.{refuse_if, ◌then◌}
use Rattle.refusals.specs.declared.Refusal.TheVariants.{CodeOutside}
use Rattle.netlist.specs.NetOf.{alone}
use Rattle.call_position.specs.Literals.{literal_verdict}
use Rattle.call_position.proofs.Literals.{numbering-shown}
use Rattle.call_position.proofs.test_literal.Goals as goal
use Rattle.call_position.proofs.test_literal.Goals.{After-is_above}

pub returns-in_err-test_numbering : goal.returns-in_err-test_numbering
unfolding literal_verdict ◌then◌
returns-in_err-test_numbering c =
    let p = err_from_is_err_and c.from_residual.result c.from_residual.ensures.1 in
    rw (p.1, p.2, sym c.in_err-test_numbering.ensures)

pub test_frame-requires : goal.test_frame-requires
test_frame-requires c = numbering-shown _ _ (sym c.in_ok-test_numbering.ensures)

pub returns-in_err-test_frame : goal.returns-in_err-test_frame
unfolding literal_verdict ◌then◌
returns-in_err-test_frame c =
    let p = err_from_is_err_and c.from_residual-in_err-test_frame.result c.from_residual-in_err-test_frame.ensures.1 in
    rw (p.1, p.2, sym c.in_ok-test_numbering.ensures, sym c.in_err-test_frame.ensures)

pub last_wire-requires : goal.last_wire-requires
last_wire-requires c = (numbering-shown _ _ (sym c.in_ok-test_numbering.ensures)).0

-- only the test of the code is left
left : (c : After-is_above) →
    literal_verdict (alone c.args.net) c.args.position c.args.code.0 ≡ refuse_if c.is_above.result CodeOutside 0
unfolding literal_verdict ◌then◌
left c =
    rw (sym c.in_ok-test_numbering.ensures, sym c.in_ok-test_frame.ensures, c.is_above.ensures, c.last_wire.ensures)

pub returns-then-is_above : goal.returns-then-is_above
returns-then-is_above c = sym (left (goal.at.returns-then-is_above c).After-is_above ∙ rw c.if-is_above.true)

pub returns : goal.returns
returns c = sym (left (goal.at.returns c).After-is_above ∙ rw c.if-is_above.false)
