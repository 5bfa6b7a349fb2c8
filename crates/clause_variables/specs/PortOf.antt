-- The model's port that a port of the code stands for. Cited by every contract over a port.
use Rattle.model.specs.Netlist as M
use Rattle.netlist.specs.NetOf.{code_of}
use Rattle.clause_variables.specs.declared.Port.{Port}

unfoldable pub port_of : Port → M.Port
port_of p =
    record { address = code_of p.address; RE = p.re.0; first_read = p.first_read; first_variable = p.first_variable }
