-- The literals of a pair of frames at a port of a record, and what is asked of them. Cited by the writers of a pair's clauses.
use Rattle.std.specs.Prelude.{ℕ, ◌≤◌, ◌<◌}
use Rattle.model.specs.Limits.{most_depth}
use Rattle.model.specs.Clauses.{PairLiterals}
use Rattle.model.specs.Variables.{pair_literals}
use Rattle.netlist.specs.declared.Netlist.{Netlist}
use Rattle.clause_variables.specs.declared.Port.{Port}
use Rattle.netlist.specs.NetOf.{alone}
use Rattle.clause_variables.specs.PortOf.{port_of}
use Rattle.clause_variables.specs.PortFits.{PortFits}

abbrev pub of_pair : Netlist → Port → ℕ → ℕ → PairLiterals
of_pair net port j i = pair_literals (alone net) (port_of port) j i

-- j < i only: a read does not see its own frame's write
pub record PairFits (net : Netlist) (port : Port) (j i : ℕ) : Type 0 where
  pub fits : PortFits (alone net) (port_of port)
  pub earlier : j < i
  pub depth : i ≤ most_depth
