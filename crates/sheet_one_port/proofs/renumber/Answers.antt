-- `sheet_one_port::renumber` meets its contract. The loop has renumbered the entries up to i.

use native.Mathlib.Omega.{arith}
use Rattle.sheet_one_port.proofs.Mapped.{mapped-none, mapped_next}
use Rattle.sheet_one_port.proofs.renumber.Goals as goal

pub loop-i-init : goal.loop-i-init
loop-i-init c = mapped-none _ _ _ _

pub loop-i-preserved : goal.loop-i-preserved
loop-i-preserved c = mapped_next _ _ _ _ c.loop-i.invariant (omega arith) _ c.one_code.ensures

pub returns : goal.returns
returns c = record { each = λ x b. c.loop-i.invariant.mapped x (omega arith) }
