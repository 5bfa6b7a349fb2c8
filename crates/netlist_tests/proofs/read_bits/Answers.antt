-- `netlist_tests::read_bits` meets its contract. The loop's invariant: the table has the wires from the first read bit up to w.

use mathlib.Core.Bool.{true}
use native.Mathlib.Omega.{arith}
use Rattle.netlist.specs.NetOf.{net_of, alone}
use Rattle.netlist_tests.proofs.Dependence.{table_none, table-set, table_same, between_none, between_next, between-is_read}
use Rattle.netlist_tests.proofs.read_bits.Goals as goal

pub loop-w-init : goal.loop-w-init
loop-w-init c = table_same (between_none _) table_none

pub loop-w-preserved : goal.loop-w-preserved
unfolding net_of
loop-w-preserved c =
    let w = c.loop-w.w in
    table_same (λ x. between_next _ w x (omega arith))
    (table-set c.loop-w.invariant w (omega (arith, c.requires)) true)

pub returns : goal.returns
unfolding net_of
returns c = table_same (between-is_read (alone c.args.net) _ c.loop-w.w (omega arith) (omega arith)) c.loop-w.invariant
