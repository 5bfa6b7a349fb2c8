-- `netlist_tests::test_loops` meets its contract. Where the pass over the lists finds nothing, no line makes a memory loop. The loop's
-- invariant: the lines before the place make none. It starts at the address codes, and no line before them does.

use Prim.Native.Nat.{◌-◌}
use mathlib.Core.Path.{◌≡◌, sym, ◌∙◌, ap}
use mathlib.Core.List.{[]}
use native.Mathlib.Omega.{arith}
use Rattle.refusals.specs.declared.Refusal.TheVariants.{MemoryLoop}
use Rattle.netlist.specs.NetOf.{net_of, alone}
use Rattle.netlist.specs.Places.{line_at}
use Rattle.netlist.specs.Faults.{loop_fault_by, loop_fault}
use Rattle.netlist.specs.WireTable.{entry}
use Rattle.netlist.proofs.NetOf.{sizes-lists, limits-alone, line_at-lists, loop_fault_by-lists}
use Rattle.netlist.proofs.Places.{has-line_at}
use Rattle.netlist_tests.proofs.Lists.{any-loop-lists}
use Rattle.netlist_tests.proofs.Record.{passed-place, refused-place, passed-last, passed-all}
use Rattle.netlist_tests.proofs.Dependence.{loop_fault-table, loops-none, loops-before}
use Rattle.netlist_tests.proofs.test_loops.Goals as goal
use Rattle.netlist_tests.proofs.test_loops.Goals.{After-loop_fault}

pub any_loop-requires : goal.any_loop-requires
any_loop-requires c = limits-alone c.args.net [] c.args.gates.now c.requires

pub returns-then-not-any_loop : goal.returns-then-not-any_loop
returns-then-not-any_loop c =
    sym (loops-none c.depends_on_read-flags.ensures c.requires
    (sym (any-loop-lists c.args.net [] c.args.gates.now (entry c.depends_on_read-flags.result)) ∙ sym c.any_loop.ensures ∙ c.if-not-any_loop.true))

pub control_line-place-end-requires : goal.control_line-place-end-requires
control_line-place-end-requires c = sizes-lists c.args.net [] c.args.gates.now [] [] c.requires.sizes

pub line_at-line-requires : goal.line_at-line-requires
line_at-line-requires c = sizes-lists c.args.net [] c.args.gates.now [] [] c.requires.sizes

pub loop_fault-requires : goal.loop_fault-requires
loop_fault-requires c = (
  limits-alone c.args.net [] c.args.gates.now c.requires,
  rw c.line_at-line.ensures (has-line_at (alone c.args.net) c.loop-place.place),
)

-- what the turn's call says of the line at the place
tested : (c : After-loop_fault)
    → loop_fault (net_of c.args.net [] c.args.gates.now) (line_at (net_of c.args.net [] c.args.gates.now) c.loop-place.place) ≡ c.loop_fault.result
tested c =
    let d = net_of c.args.net [] c.args.gates.now in
    let p = c.loop-place.place in
    let flags = c.depends_on_read-flags.result in
    loop_fault-table c.depends_on_read-flags.ensures c.requires (line_at d p) (has-line_at d p)
    ∙ sym (loop_fault_by-lists c.args.net [] c.args.gates.now (entry flags) (line_at d p))
    ∙ ap (loop_fault_by (entry flags) (alone c.args.net))
    (sym (line_at-lists c.args.net [] c.args.gates.now p) ∙ sym c.line_at-line.ensures)
    ∙ sym c.loop_fault.ensures

pub returns-then-loop_fault : goal.returns-then-loop_fault
unfolding net_of
returns-then-loop_fault c =
    sym (refused-place (net_of c.args.net [] c.args.gates.now) MemoryLoop loop_fault c.loop-place.place
    (omega arith)
    c.loop-place.invariant
    (tested (goal.at.returns-then-loop_fault c).After-loop_fault ∙ c.if-loop_fault.true)
    (omega (arith, c.control_line-place-end.ensures)))

pub loop-place-preserved : goal.loop-place-preserved
loop-place-preserved c =
    passed-place (net_of c.args.net [] c.args.gates.now) MemoryLoop loop_fault c.loop-place.place
    (omega arith)
    c.loop-place.invariant
    (tested (goal.at.loop-place-preserved c).After-loop_fault ∙ c.if-loop_fault.false)

pub returns-else-not-any_loop : goal.returns-else-not-any_loop
unfolding net_of
returns-else-not-any_loop c =
    sym (passed-all (net_of c.args.net [] c.args.gates.now) MemoryLoop loop_fault (c.loop-place.place - 1)
    (omega (arith, c.control_line-place-end.ensures))
    c.loop-place.invariant)

pub returns-else-loop_fault : goal.returns-else-loop_fault
unfolding net_of
returns-else-loop_fault c =
    sym (passed-last (net_of c.args.net [] c.args.gates.now) MemoryLoop loop_fault c.loop-place.place
    (omega arith)
    c.loop-place.invariant
    (tested (goal.at.returns-else-loop_fault c).After-loop_fault ∙ c.if-loop_fault.false)
    (omega (arith, c.control_line-place-end.ensures)))

pub loop-place-init : goal.loop-place-init
unfolding net_of
loop-place-init c = loops-before (net_of c.args.net [] c.args.gates.now) _ (omega arith)

pub overflow_add-first : goal.overflow_add-first
unfolding net_of
overflow_add-first c = omega (arith, c.requires.sizes)

pub overflow_add-first-2 : goal.overflow_add-first-2
unfolding net_of
overflow_add-first-2 c = omega (arith, c.requires.sizes)
