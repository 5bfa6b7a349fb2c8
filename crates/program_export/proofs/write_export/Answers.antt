-- `program_export::write_export` meets its contract: the refusal of the tests, or the file.

use mathlib.Core.Path.{sym, ◌∙◌}
use native.Mathlib.Omega.{arith}
use Rattle.aiger_export.proofs.ExportCall.{accepted, single-port}
use Rattle.netlist.specs.NetOf.{net_of}
use Rattle.program_input.specs.Input.{text_or_refusal}
use Rattle.program_export.proofs.write_export.Goals as goal

pub returns-in-Err : goal.returns-in-Err
unfolding text_or_refusal
returns-in-Err c =
    let v = sym c.test_export-tested.ensures ∙ c.in-Err.is in
    let w = c.write_refused.ensures in
    (rw v w.0, omega (arith, w.1))

pub put_file-requires : goal.put_file-requires
unfolding net_of
put_file-requires c =
    let passed = sym c.test_export-tested.ensures ∙ c.in_default.is in
    ((accepted _ _ _ passed).limits, c.requires, single-port _ _ _ passed)

pub returns : goal.returns
unfolding text_or_refusal
returns c =
    let v = sym c.test_export-tested.ensures ∙ c.in_default.is in
    let w = c.put_file.ensures in
    (rw v w.0, w.1)
