-- `aiger_lines::next_line` meets its contract: a line feed is found, or there is none.

use native.Mathlib.Omega.{arith}
use Rattle.aiger_lines.proofs.Lines.{next-found, next-missing}
use Rattle.aiger_lines.proofs.next_line.Goals as goal

pub returns-then-end-text : goal.returns-then-end-text
returns-then-end-text c =
    next-found c.args.text.now c.args.line c.args.at c.find-end.result c.requires.1 c.find-end.ensures c.read_numbers.result c.requires.0 (omega arith)
    c.read_numbers.ensures.numbers

pub returns : goal.returns
returns c =
    next-missing c.args.text.now c.args.line c.args.at c.find-end.result c.requires.1 c.find-end.ensures c.no_numbers.result c.requires.0 (omega arith)
    c.no_numbers.ensures
