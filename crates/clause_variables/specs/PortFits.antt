-- What an accepted netlist and a port of it give the writers of clauses: numbers within their limits. Cited by the literals that
-- two frames have in common, and by the writers of pairs and closings.
use Rattle.std.specs.Prelude.{ℕ, ◌+◌, ◌≤◌, ◌<◌}
use Rattle.model.specs.Netlist.{Netlist, Port, read_bits}
use Rattle.model.specs.Variables.{stride}
use Rattle.model.specs.Acceptance.{WithinLimits, IsCode}

pub record PortFits (c : Netlist) (p : Port) : Type 0 where
  pub limits : WithinLimits c
  pub port-address-fits : (t : ℕ) → t < c.m → IsCode c (p.address t)
  pub port-RE-fits : IsCode c p.RE
  -- its read bits are among the read bits, and its variables among a pair's
  pub reads_fit : p.first_read + c.n ≤ read_bits c
  pub variables-fit : p.first_variable + c.m + 4 ≤ stride c
