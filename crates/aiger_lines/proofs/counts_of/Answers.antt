-- `aiger_lines::counts_of` meets its contract.

use mathlib.Core.Path.{sym}
use Rattle.aiger_lines.proofs.Parts.{counts-five, counts-other}
use Rattle.aiger_lines.proofs.counts_of.Goals as goal

pub returns-then-numbers-eq5 : goal.returns-then-numbers-eq5
returns-then-numbers-eq5 c =
    sym (counts-five c.args.numbers c.requires c.if-numbers-eq5.true)

pub returns : goal.returns
returns c = sym (counts-other c.args.numbers c.requires c.if-numbers-eq5.false)
