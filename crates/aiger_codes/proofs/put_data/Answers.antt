-- `aiger_codes::put_data` meets its contract. The loop's invariant: t codes are in the record, and nothing else has changed.

use Prim.Native.Nat.{◌+◌}
use mathlib.Core.Path.{◌∙◌, ap}
use native.Mathlib.Omega.{arith}
use lib.ListN.{set}
use Rattle.netlist.specs.declared.Netlist.{Netlist}
use Rattle.aiger_codes.specs.Outputs.{output_code, with_data}
use Rattle.aiger_codes.proofs.Outputs.{coded-next, output-at}
use Rattle.aiger_codes.proofs.put_data.Goals as goal

pub loop-t-preserved : goal.loop-t-preserved
loop-t-preserved c = (
  ap (λ (r : Netlist). with_data r (set c.loop-t.next.write_data c.loop-t.t c.code_of.result)) c.loop-t.invariant.0,
  coded-next 32 (λ x. output_code c.args.table.now (c.args.net.m + x)) c.loop-t.next.write_data c.loop-t.t c.code_of.result.0 (omega arith) (c.code_of.ensures ∙ output-at c.args.table.now (c.args.net.m + c.loop-t.t) _ (omega arith)) c.loop-t.invariant.1,
)
