-- `aiger_definitions::undefined_in_block` meets its contract.

use mathlib.Core.Path.{◌∙◌}
use Rattle.aiger_definitions.proofs.Blocks.{judged-either, min-above}
use Rattle.aiger_definitions.proofs.Passes.{cleared-ready}
use Rattle.aiger_definitions.proofs.undefined_in_block.Goals as goal

pub pass-operands-requires : goal.pass-operands-requires
pass-operands-requires c =
    cleared-ready c.args.text.now c.args.header c.args.lines c.args.base c.args.marks.now c.clear.new.marks c.requires c.clear.ensures.0 c.clear.ensures.1

pub returns : goal.returns
returns c =
    let operands = c.pass-operands.ensures in
    let others = c.pass-others.ensures in record {
      judged = (
        rw (c.min.ensures, c.min-2.ensures) (judged-either operands.judged.0 others.judged.0),
        rw c.min-2.ensures (min-above operands.judged.1 others.judged.1),
      );
      size = others.all_marked.1 ∙ operands.all_marked.1 ∙ c.clear.ensures.0;
    }
