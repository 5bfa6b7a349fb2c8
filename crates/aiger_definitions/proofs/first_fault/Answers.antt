-- `aiger_definitions::first_fault` meets its contract. The loop's invariant: no variable below the block has a fault before the first that was found.

use mathlib.Core.Path.{◌∙◌}
use native.Mathlib.Omega.{arith}
use Rattle.aiger_definitions.specs.Blocks.{fault_of}
use Rattle.aiger_definitions.proofs.Blocks.{judged-start, judged-on}
use Rattle.aiger_definitions.proofs.first_fault.Goals as goal

pub loop-base-init : goal.loop-base-init
loop-base-init c =
    (omega arith, judged-start (fault_of c.args.fault c.args.text.now c.args.lines) c.args.lines 1, c.no_marks-marks.ensures)

pub loop-base-preserved : goal.loop-base-preserved
loop-base-preserved c =
    let found = c.fault_in_block-found.ensures in
    (omega (arith, found.judged.1), rw c.min-first.ensures (judged-on c.loop-base.invariant.0 c.loop-base.invariant.1 found.judged.0), found.size ∙ c.loop-base.invariant.2)
