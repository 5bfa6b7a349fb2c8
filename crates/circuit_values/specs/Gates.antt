-- What a table of a frame's values is filled by, in wire order. Cited by the functions that fill it.
use Rattle.std.specs.Prelude.{ℕ, ◌<◌, ◌≡◌, ◌&&◌}
use Rattle.model.specs.Netlist.{Netlist, gate_wire}
use Rattle.model.specs.Circuit.{Values, code_value}

-- values in which every gate is the AND of its two codes (RULES W2)
pub record GatesHold (c : Netlist) (v : Values) : Type 0 where
  pub at-gate : (g : ℕ) → g < c.gates → v (gate_wire c g) ≡ (code_value v (c.left g) && code_value v (c.right g))
