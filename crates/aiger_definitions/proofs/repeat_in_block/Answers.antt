-- `aiger_definitions::repeat_in_block` meets its contract.

use Rattle.aiger_definitions.proofs.Passes.{cleared-ready}
use Rattle.aiger_definitions.proofs.repeat_in_block.Goals as goal

pub pass-requires : goal.pass-requires
pass-requires c =
    cleared-ready c.args.text.now c.args.header c.args.lines c.args.base c.args.marks.now c.clear.new.marks c.requires c.clear.ensures.0 c.clear.ensures.1
