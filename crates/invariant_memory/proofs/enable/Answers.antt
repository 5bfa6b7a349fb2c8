-- `invariant_memory::enable` meets its contract.

use native.Mathlib.Numerals.{add-one}
use native.Mathlib.Omega.{arith}
use mathlib.Core.Path.{ap, ◌∙◌}
use Rattle.model.specs.Netlist as M
use Rattle.clause_variables.specs.PortOf.{port_of}
use Rattle.netlist.specs.NetOf.{net_of}
use Rattle.invariant_memory.proofs.enable.Goals as goal

pub overflow_add-q : goal.overflow_add-q
unfolding net_of
overflow_add-q c =
    record { fits = omega (arith, c.requires.0.kind_fits) }

pub port_of-port-requires : goal.port_of-port-requires
unfolding net_of
port_of-port-requires c =
    (c.requires.0, (omega arith, omega arith))

pub returns : goal.returns
unfolding port_of
returns c =
    let port = rw add-one at c.port_of-port.ensures in
    c.code_term.ensures ∙ rw (ap (λ (p : M.Port). p.RE) port)
