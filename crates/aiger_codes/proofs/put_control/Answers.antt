-- `aiger_codes::put_control` meets its contract: four outputs are looked up.

use Prim.Native.Nat.{◌+◌}
use mathlib.Core.Path.{◌∙◌}
use native.Mathlib.Omega.{arith}
use Rattle.aiger_graph.specs.RecordAig.{control_output}
use Rattle.aiger_codes.proofs.Outputs.{output-at}
use Rattle.aiger_codes.proofs.put_control.Goals as goal

pub returns : goal.returns
returns c =
    let control = control_output c.args.net.m c.args.net.n c.args.net.second_port in
    let entry = c.control_entry-first.ensures.0 in
    rw (
      c.second_enable-next.ensures,
      c.code_of-next.ensures ∙ output-at c.args.table.now control _ (omega (arith, entry)),
      c.code_of-next-2.ensures ∙ output-at c.args.table.now (control + 1) _ (omega (arith, entry)),
      c.code_of-next-3.ensures ∙ output-at c.args.table.now (control + 2) _ (omega (arith, entry)),
    )
