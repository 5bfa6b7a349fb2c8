-- `aiger_codes::second_enable` meets its contract: an output is looked up, where there is a second port.

use Prim.Native.Nat.{◌+◌}
use mathlib.Core.Path.{◌∙◌}
use native.Mathlib.Omega.{arith}
use borrow.Author.Tests.{lt-ltb}
use Rattle.aiger_codes.proofs.Outputs.{output-at}
use Rattle.aiger_codes.proofs.second_enable.Goals as goal

pub returns-then-net-gt0 : goal.returns-then-net-gt0
returns-then-net-gt0 c =
    let net = c.args.net in
    rw (lt-ltb 0 net.second_port c.if-net-gt0.true)
    (c.code_of.ensures ∙ output-at c.args.table.now (net.m + net.n + net.m) _ (omega arith))
