-- `answer_scan::put_byte` meets its contract: the line grows by the byte, or is longer than any that counts.

use native.Mathlib.Omega.{arith}
use Rattle.answer_lines.specs.declared.Progress.TheVariants.{Malformed}
use Rattle.answer_scan.proofs.Steps.{holds-short, byte-holds, byte-added, byte-too-many}
use Rattle.answer_scan.proofs.put_byte.Goals as goal

pub returns-then-count-lt16 : goal.returns-then-count-lt16
returns-then-count-lt16 c =
    let at = c.args.at in
    let line = c.args.line.now in
    let byte = c.args.byte in record { holds = byte-holds at line byte c.requires.0 c.requires.1 (omega arith); passed = byte-added at line byte c.requires.0 c.requires.1 (omega arith) }

pub returns : goal.returns
returns c =
    let at = c.args.at in
    let line = c.args.line.now in
    let byte = c.args.byte in record { holds = holds-short (record { progress = Malformed; count = 0 }) c.requires.0 (omega arith); passed = byte-too-many at line byte c.requires.0 c.requires.1 (omega arith) }
