-- `group_property::put_violations` meets its contract. The loop has written the frames passed.

use native.Mathlib.Omega.{arith}
use Rattle.model.specs.Variables.{base}
use Rattle.literals.specs.Numbering.{base_of}
use Rattle.netlist.specs.NetOf.{net_of}
use Rattle.clause_variables.proofs.Room.{code-has-number}
use Rattle.clause_writer.proofs.Turns.{turns-start, turns_next, turns-end}
use Rattle.group_property.proofs.Violations.{violations}
use Rattle.group_property.proofs.put_violations.Goals as goal

pub loop-i-init : goal.loop-i-init
loop-i-init c = turns-start _ _ _ _ (omega arith)

pub in_frame-property-requires : goal.in_frame-property-requires
unfolding base base_of net_of
in_frame-property-requires c =
    let is = c.requires.0 in
    rw (c.base.ensures, c.numbering-numbering.ensures.0, c.numbering-numbering.ensures.1)
    (code-has-number _ is.limits.sizes _ _ (omega arith) (omega arith))

pub loop-i-preserved : goal.loop-i-preserved
loop-i-preserved c =
    turns_next c.loop-i.invariant c.loop-i-test.true (rw (c.negated.ensures.literal, c.in_frame-property.ensures.literal, c.base.ensures) at c.put_literal-at.ensures)

pub returns : goal.returns
returns c =
    let all = turns-end c.loop-i.invariant (omega arith) in
    (rw (violations c.args.net _ _ c.numbering-numbering.ensures) all.0, omega arith)
