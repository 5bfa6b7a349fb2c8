-- `sheet_one_port::renumber_codes` meets its contract. The loop has renumbered the codes before.

use native.Mathlib.Omega.{arith}
use Rattle.netlist.specs.NetOf.{code_of}
use Rattle.sheet_one_port.proofs.Mapped.{mapped-none, mapped_next}
use Rattle.sheet_one_port.proofs.renumber_codes.Goals as goal

pub loop-code-init : goal.loop-code-init
loop-code-init c = mapped-none _ _ _ _

pub loop-code-preserved : goal.loop-code-preserved
loop-code-preserved c = mapped_next _ _ _ _ c.loop-code.invariant (omega arith) _ c.one_code.ensures

pub returns : goal.returns
unfolding code_of
returns c = λ x b. c.loop-code.invariant.mapped x (omega arith)
