-- `sheet_steps::test_stored` meets its contract: the place says which line is due, and so which fault it can have.

use native.Mathlib.Omega.{arith}
use mathlib.Core.Path.{◌≡◌, sym, ◌∙◌}
use mathlib.Core.Bool.{false}
use Rattle.netlist.specs.NetOf.{net_of, alone}
use Rattle.netlist.specs.Faults.{size_fault, code_fault}
use Rattle.netlist.proofs.Places.{at-sizes, at-memory, has-line_at}
use Rattle.sheet_steps.specs.LineFaults.{faults_at}
use Rattle.sheet_steps.proofs.Places.{no-size-from-3}
use Rattle.refusals.specs.Tests.{◌then◌}
use Rattle.sheet_steps.proofs.test_stored.Goals as goal

pub returns-then-sizes_fault : goal.returns-then-sizes_fault
unfolding net_of size_fault faults_at ◌then◌
returns-then-sizes_fault c =
    rw (c.requires.1 ∙ at-sizes (alone c.args.net) c.args.place c.if-place-lt2.true, sym c.sizes_fault.ensures ∙ c.if-sizes_fault.true)

pub returns-then-place-lt2 : goal.returns-then-place-lt2
unfolding net_of size_fault code_fault faults_at ◌then◌
returns-then-place-lt2 c =
    rw (c.requires.1 ∙ at-sizes (alone c.args.net) c.args.place c.if-place-lt2.true, sym c.sizes_fault.ensures ∙ c.if-sizes_fault.false)

pub returns-then-memory_fault : goal.returns-then-memory_fault
unfolding net_of size_fault faults_at ◌then◌
returns-then-memory_fault c =
    rw (c.requires.1 ∙ at-memory (alone c.args.net) c.args.place (omega arith), sym c.memory_fault.ensures ∙ c.if-memory_fault.true)

pub returns-then-place-lt3 : goal.returns-then-place-lt3
unfolding net_of size_fault code_fault faults_at ◌then◌
returns-then-place-lt3 c =
    rw (c.requires.1 ∙ at-memory (alone c.args.net) c.args.place (omega arith), sym c.memory_fault.ensures ∙ c.if-memory_fault.false)

pub code_fault-requires : goal.code_fault-requires
code_fault-requires c =
    (c.requires.0 (omega arith), rw c.requires.1 (has-line_at (alone c.args.net) c.args.place))

pub returns-then-code_fault : goal.returns-then-code_fault
unfolding faults_at ◌then◌
returns-then-code_fault c =
    let late : size_fault (net_of c.args.net c.args.latches.now c.args.gates.now) c.args.due ≡ false = rw c.requires.1 (no-size-from-3 (net_of c.args.net c.args.latches.now c.args.gates.now) (alone c.args.net) c.args.place c.if-place-lt3.false) in
    rw (late, sym c.code_fault.ensures ∙ c.if-code_fault.true)

pub returns : goal.returns
unfolding faults_at ◌then◌
returns c =
    let late : size_fault (net_of c.args.net c.args.latches.now c.args.gates.now) c.args.due ≡ false = rw c.requires.1 (no-size-from-3 (net_of c.args.net c.args.latches.now c.args.gates.now) (alone c.args.net) c.args.place c.if-place-lt3.false) in
    rw (late, sym c.code_fault.ensures ∙ c.if-code_fault.false)
