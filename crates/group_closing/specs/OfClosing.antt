-- The literals of the closing of a frame at a port of a record, and what is asked of them. Cited by every function of this
-- crate.
use Rattle.std.specs.Prelude.{ℕ, ◌≤◌}
use Rattle.model.specs.Limits.{most_depth}
use Rattle.model.specs.Clauses.{ClosingLiterals}
use Rattle.model.specs.Variables.{closing_literals}
use Rattle.netlist.specs.declared.Netlist.{Netlist}
use Rattle.clause_variables.specs.declared.Port.{Port}
use Rattle.netlist.specs.NetOf.{alone}
use Rattle.clause_variables.specs.PortOf.{port_of}
use Rattle.clause_variables.specs.PortFits.{PortFits}

abbrev pub of_closing : Netlist → Port → ℕ → ClosingLiterals
of_closing net port i = closing_literals (alone net) (port_of port) i

pub record ClosingFits (net : Netlist) (port : Port) (i : ℕ) : Type 0 where
  pub fits : PortFits (alone net) (port_of port)
  pub depth : i ≤ most_depth
