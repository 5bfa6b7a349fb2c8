-- `sheet_one_port::test_second` meets its contract. The loop's invariant: the lines before the place do not use the second port.

use Prim.Native.Nat.{◌-◌}
use mathlib.Core.Path.{◌≡◌, refl, sym, ◌∙◌, ap}
use native.Mathlib.Omega.{arith}
use Rattle.refusals.specs.Tests.{in_order}
use Rattle.refusals.specs.declared.Refusal.TheVariants.{SecondPort}
use Rattle.netlist.specs.NetOf.{net_of, alone}
use Rattle.netlist.specs.Places.{line_at}
use Rattle.netlist.proofs.NetOf.{line_at-lists}
use Rattle.netlist.proofs.Places.{has-line_at}
use Rattle.netlist_tests.proofs.Record.{passed-place, refused-place, passed-last, passed-all}
use Rattle.sheet_one_port.specs.SecondPort.{second_use}
use Rattle.sheet_one_port.proofs.test_second.Goals as goal
use Rattle.sheet_one_port.proofs.test_second.Goals.{After-second_use}

pub loop-place-init : goal.loop-place-init
unfolding in_order
loop-place-init c = refl

pub second_use-requires : goal.second_use-requires
second_use-requires c = (
  c.requires,
  rw c.line_at-line.ensures (has-line_at (alone c.args.net) c.loop-place.place),
)

-- what the turn's call says of the line at the place
tested : (c : After-second_use) → second_use (net_of c.args.net c.args.latches.now c.args.gates.now) (line_at (net_of c.args.net c.args.latches.now c.args.gates.now) c.loop-place.place) ≡ c.second_use.result
tested c =
    let d = net_of c.args.net c.args.latches.now c.args.gates.now in
    ap (second_use d) (sym (line_at-lists c.args.net c.args.latches.now c.args.gates.now c.loop-place.place) ∙ sym c.line_at-line.ensures)
    ∙ sym c.second_use.ensures

pub returns-then-second_use : goal.returns-then-second_use
unfolding net_of
returns-then-second_use c =
    sym (refused-place (net_of c.args.net c.args.latches.now c.args.gates.now) SecondPort second_use
    c.loop-place.place
    (omega arith)
    c.loop-place.invariant
    (tested (goal.at.returns-then-second_use c).After-second_use ∙ c.if-second_use.true)
    (omega arith))

pub loop-place-preserved : goal.loop-place-preserved
loop-place-preserved c =
    passed-place (net_of c.args.net c.args.latches.now c.args.gates.now) SecondPort second_use
    c.loop-place.place
    (omega arith)
    c.loop-place.invariant
    (tested (goal.at.loop-place-preserved c).After-second_use ∙ c.if-second_use.false)

pub returns : goal.returns
unfolding net_of
returns c =
    sym (passed-all (net_of c.args.net c.args.latches.now c.args.gates.now) SecondPort second_use
    (c.loop-place.place - 1)
    (omega (arith, c.control_line-place-end.ensures))
    c.loop-place.invariant)

pub returns-else-second_use : goal.returns-else-second_use
unfolding net_of
returns-else-second_use c =
    sym (passed-last (net_of c.args.net c.args.latches.now c.args.gates.now) SecondPort second_use c.loop-place.place
    (omega arith)
    c.loop-place.invariant
    (tested (goal.at.returns-else-second_use c).After-second_use ∙ c.if-second_use.false)
    (omega (arith, c.control_line-place-end.ensures)))
