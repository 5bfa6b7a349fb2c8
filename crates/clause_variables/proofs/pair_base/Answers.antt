-- `clause_variables::pair_base` meets its contract.

use native.Mathlib.Omega.{arith}
use Rattle.model.specs.Variables.{base, pair_base}
use Rattle.literals.specs.Numbering.{base_of, pair_base_of}
use Rattle.clause_variables.specs.PortOf.{port_of}
use Rattle.clause_variables.proofs.Room.{numbering-fits}
use Rattle.clause_variables.proofs.pair_base.Goals as goal

pub pair_base-requires : goal.pair_base-requires
unfolding port_of
pair_base-requires c =
    let p = c.requires in (
      numbering-fits p.0.limits.sizes c.numbering.ensures.0 c.numbering.ensures.1 (omega (arith, p.2)),
      p.1,
      rw c.numbering.ensures.1 (omega (arith, p.0.variables-fit)),
    )

pub returns : goal.returns
unfolding base pair_base base_of pair_base_of port_of
returns c = rw (c.numbering.ensures.0, c.numbering.ensures.1) at c.pair_base.ensures
