-- What the writers of a frame's clauses ask of a netlist, and of a frame or depth: numbers within their limits (RULES W7 to W13).
-- Cited by the writers of wires and of the property.
use Rattle.std.specs.Prelude.{ℕ, ◌≤◌}
use Rattle.model.specs.Limits.{most_depth}
use Rattle.model.specs.Netlist.{Netlist}
use Rattle.model.specs.Acceptance.{WithinLimits}

pub record FrameFits (c : Netlist) (i : ℕ) : Type 0 where
  pub limits : WithinLimits c
  pub depth : i ≤ most_depth
