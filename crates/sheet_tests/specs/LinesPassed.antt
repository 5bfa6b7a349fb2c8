-- What lines that have passed say of the record and the lists. Cited by `test_end`.
use Rattle.std.specs.Prelude.{ℕ, ◌≤◌}
use Rattle.model.specs.Netlist.{Netlist}
use Rattle.model.specs.Acceptance.{WithinLimits}
use Rattle.netlist.specs.Places.{control_line}
use Rattle.sheet_steps.specs.Steps.{SizesKnown}

-- what `count` lines that have passed say of the netlist
pub record LinesPassed (c : Netlist) (count : ℕ) : Type 0 where
  pub sizes : SizesKnown c count
  pub limits : control_line c ≤ count → WithinLimits c
