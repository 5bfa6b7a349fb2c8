-- `aiger_lines::read_header` meets its contract.

use mathlib.Core.Path.{◌∙◌}
use Rattle.aiger_lines.proofs.Lines.{read-holds, counts-read}
use Rattle.aiger_lines.proofs.read_header.Goals as goal

pub counts_of-counts-requires : goal.counts_of-counts-requires
counts_of-counts-requires c = read-holds c.args.text.now 0 c.first_line-first.result.numbers c.first_line-first.result.next c.first_line-first.ensures

pub returns : goal.returns
returns c =
    record {
      counts-are = c.counts_of-counts.ensures ∙ counts-read c.args.text.now c.first_line-first.result.numbers c.first_line-first.result.next c.first_line-first.ensures;
      behind = c.first_line-first.ensures.behind;
    }
