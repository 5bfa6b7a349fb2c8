-- `aiger_codes::put_address` meets its contract. The loop's invariant: t codes are in the record, and nothing else has changed.

use mathlib.Core.Path.{ap}
use native.Mathlib.Omega.{arith}
use lib.ListN.{set}
use Rattle.netlist.specs.declared.Netlist.{Netlist}
use Rattle.aiger_codes.specs.Outputs.{output_code, with_address}
use Rattle.aiger_codes.proofs.Outputs.{coded-next}
use Rattle.aiger_codes.proofs.put_address.Goals as goal

pub loop-t-preserved : goal.loop-t-preserved
unfolding output_code
loop-t-preserved c = (
  ap (λ (r : Netlist). with_address r (set c.loop-t.next.address c.loop-t.t c.code_of.result)) c.loop-t.invariant.0,
  coded-next 12 (output_code c.args.table.now) c.loop-t.next.address c.loop-t.t c.code_of.result.0 (omega arith) c.code_of.ensures c.loop-t.invariant.1,
)
