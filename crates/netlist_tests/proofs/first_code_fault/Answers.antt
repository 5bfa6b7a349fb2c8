-- `netlist_tests::first_code_fault` meets its contract. The loop's invariant: the lines before the place have no code outside its limit.

use Prim.Native.Nat.{◌-◌}
use mathlib.Core.Path.{◌≡◌, refl, sym, ◌∙◌, ap}
use native.Mathlib.Omega.{arith}
use Rattle.refusals.specs.Tests.{in_order}
use Rattle.refusals.specs.declared.Refusal.TheVariants.{CodeOutside}
use Rattle.netlist.specs.NetOf.{net_of, alone}
use Rattle.netlist.specs.Places.{line_at}
use Rattle.netlist.specs.Faults.{code_fault}
use Rattle.netlist.proofs.NetOf.{line_at-lists}
use Rattle.netlist.proofs.Places.{has-line_at}
use Rattle.netlist_tests.proofs.Record.{passed-place, refused-place, passed-last, passed-all}
use Rattle.netlist_tests.proofs.first_code_fault.Goals as goal
use Rattle.netlist_tests.proofs.first_code_fault.Goals.{After-code_fault}

pub code_fault-requires : goal.code_fault-requires
code_fault-requires c = (
  c.requires,
  rw c.line_at-line.ensures (has-line_at (alone c.args.net) c.loop-place.place),
)

-- what the turn's call says of the line at the place
tested : (c : After-code_fault) → code_fault (net_of c.args.net c.args.latches.now c.args.gates.now) (line_at (net_of c.args.net c.args.latches.now c.args.gates.now) c.loop-place.place) ≡ c.code_fault.result
tested c =
    let d = net_of c.args.net c.args.latches.now c.args.gates.now in
    ap (code_fault d) (sym (line_at-lists c.args.net c.args.latches.now c.args.gates.now c.loop-place.place) ∙ sym c.line_at-line.ensures)
    ∙ sym c.code_fault.ensures

pub returns-then-code_fault : goal.returns-then-code_fault
unfolding net_of
returns-then-code_fault c =
    sym (refused-place (net_of c.args.net c.args.latches.now c.args.gates.now) CodeOutside code_fault
    c.loop-place.place
    (omega arith)
    c.loop-place.invariant
    (tested (goal.at.returns-then-code_fault c).After-code_fault ∙ c.if-code_fault.true)
    (omega arith))

pub loop-place-preserved : goal.loop-place-preserved
loop-place-preserved c =
    passed-place (net_of c.args.net c.args.latches.now c.args.gates.now) CodeOutside code_fault
    c.loop-place.place
    (omega arith)
    c.loop-place.invariant
    (tested (goal.at.loop-place-preserved c).After-code_fault ∙ c.if-code_fault.false)

pub returns : goal.returns
unfolding net_of
returns c =
    sym (passed-all (net_of c.args.net c.args.latches.now c.args.gates.now) CodeOutside code_fault
    (c.loop-place.place - 1)
    (omega (arith, c.control_line-place-end.ensures))
    c.loop-place.invariant)

pub returns-else-code_fault : goal.returns-else-code_fault
unfolding net_of
returns-else-code_fault c =
    sym (passed-last (net_of c.args.net c.args.latches.now c.args.gates.now) CodeOutside code_fault c.loop-place.place
    (omega arith)
    c.loop-place.invariant
    (tested (goal.at.returns-else-code_fault c).After-code_fault ∙ c.if-code_fault.false)
    (omega (arith, c.control_line-place-end.ensures)))

pub loop-place-init : goal.loop-place-init
unfolding in_order
loop-place-init c = refl
