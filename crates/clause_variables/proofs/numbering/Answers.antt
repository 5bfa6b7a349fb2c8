-- `clause_variables::numbering` meets its contract: both ports have at most 32 variables of a pair.

use native.Mathlib.Omega.{arith}
use borrow.Author.Rules.{rules}
use Rattle.model.proofs.Ports.{stride_most}
use Rattle.netlist.specs.NetOf.{net_of}
use Rattle.clause_variables.proofs.numbering.Goals as goal

pub overflow_add-result : goal.overflow_add-result
unfolding net_of
overflow_add-result c = search rules

pub overflow_mul-result : goal.overflow_mul-result
unfolding net_of
overflow_mul-result c = rw c.port_count.ensures (omega (arith, stride_most c.requires))

pub returns : goal.returns
unfolding net_of
returns c = (c.wire_count.ensures, rw c.port_count.ensures)
