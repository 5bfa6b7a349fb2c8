-- `aiger_definitions::next_variables` meets its contract.

use Prim.Native.Nat.{◌+◌}
use Rattle.aiger_definitions.proofs.LineVariables.{variables-read}
use Rattle.aiger_definitions.proofs.next_variables.Goals as goal

pub returns : goal.returns
returns c =
    let s = c.args.text.now in
    let line = c.args.line in
    record {
      variables-are =
          rw (c.variables_of.ensures, c.part_at.ensures, c.requires.2, c.next_line-read.ensures.numbers-are)
          (variables-read s (line + 1) c.requires.4);
      behind = c.next_line-read.ensures.behind;
    }
