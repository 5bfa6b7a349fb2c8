-- `aiger_lines::first_line` meets its contract: a line feed is found, or there is none.

use native.Mathlib.Omega.{arith}
use Rattle.aiger_lines.proofs.Lines.{first_found, first-missing}
use Rattle.aiger_lines.proofs.first_line.Goals as goal

pub returns-then-length-text : goal.returns-then-length-text
returns-then-length-text c =
    first_found c.args.text.now c.find-length.result c.find-length.ensures c.header_numbers.result (omega arith) c.header_numbers.ensures

pub returns : goal.returns
returns c =
    first-missing c.args.text.now c.find-length.result c.find-length.ensures c.no_numbers.result (omega arith) c.no_numbers.ensures
