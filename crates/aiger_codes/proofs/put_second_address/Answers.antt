-- `aiger_codes::put_second_address` meets its contract. The loop's invariant: t codes are in the record, and nothing else has changed.

use Prim.Native.Nat.{◌+◌}
use mathlib.Core.Path.{◌∙◌, ap}
use native.Mathlib.Omega.{arith}
use lib.ListN.{set}
use Rattle.netlist.specs.declared.Netlist.{Netlist}
use Rattle.aiger_codes.specs.Outputs.{output_code, with_second}
use Rattle.aiger_codes.proofs.Outputs.{coded-next, output-at}
use Rattle.aiger_codes.proofs.put_second_address.Goals as goal

pub loop-t-preserved : goal.loop-t-preserved
loop-t-preserved c = (
  omega arith,
  ap (λ (r : Netlist). with_second r (set c.loop-t.next.address2 c.loop-t.t c.code_of.result)) c.loop-t.invariant.1,
  coded-next 12 (λ x. output_code c.args.table.now (c.args.net.m + c.args.net.n + x)) c.loop-t.next.address2 c.loop-t.t c.code_of.result.0 (omega arith) (c.code_of.ensures ∙ output-at c.args.table.now (c.args.net.m + c.args.net.n + c.loop-t.t) _ (omega arith)) c.loop-t.invariant.2,
)
