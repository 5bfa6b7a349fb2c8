-- `program_one_port::write_output` meets its contract: the sheet that was written, or the refusal's line over a buffer that is as it was.

use mathlib.Core.Path.{sym, ◌∙◌, ap}
use native.Mathlib.Omega.{arith}
use borrow.Author.Rules.{rules}
use Rattle.refusals.specs.Slices.{count_reply}
use Rattle.dimacs.proofs.Text.{length-refusal_text}
use Rattle.sheet_one_port.proofs.OnePortCall.{one-port-theorem}
use Rattle.program_one_port.proofs.Printed.{only-due, output-written, output-refused}
use Rattle.program_one_port.proofs.write_output.Goals as goal

pub write_refusal-requires : goal.write_refusal-requires
write_refusal-requires c =
    let converted = c.convert-answer.ensures in
    let kept = (output-refused c.args.file.now c.args.out.now c.requires _ _ (ap count_reply (sym c.in-Err.is) ∙ converted.answer) converted.borrowed).1 in
    rw kept (omega (arith, c.requires, length-refusal_text c.number.result c.in-Err.field-0.1 (search rules) (search rules)))

pub returns-in-Ok : goal.returns-in-Ok
returns-in-Ok c =
    let converted = c.convert-answer.ensures in
    let w = output-written c.args.file.now c.args.out.now c.requires _ (ap count_reply (sym c.in-Ok.is) ∙ converted.answer) converted.borrowed in
    record { text = w.0; most = w.1; converted = one-port-theorem; refusals = only-due }

pub returns-in-Err : goal.returns-in-Err
returns-in-Err c =
    let converted = c.convert-answer.ensures in
    let q = output-refused c.args.file.now c.args.out.now c.requires _ _ (ap count_reply (sym c.in-Err.is) ∙ converted.answer) converted.borrowed in
    let w = c.write_refusal.ensures in record {
      text = rw q.0 (rw (c.number.ensures, q.1) at w);
      most = omega (arith, w.counted, length-refusal_text c.number.result c.in-Err.field-0.1 (search rules) (search rules));
      converted = one-port-theorem;
      refusals = only-due;
    }
