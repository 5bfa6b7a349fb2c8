-- `aiger_binary::put_code` meets its contract.

use borrow.Author.Rules.{rules}
use Rattle.aiger_binary.specs.BinaryText.{code_line}
use Rattle.aiger_binary.proofs.put_code.Goals as goal

pub returns : goal.returns
unfolding code_line
returns c = search rules
