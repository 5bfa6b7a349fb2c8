-- `replay_call::trace_length` meets its contract.

use native.Mathlib.Omega.{arith}
use Rattle.netlist.specs.NetOf.{net_of}
use Rattle.replay_call.proofs.ReplayCall.{trace-small}
use Rattle.replay_call.proofs.trace_length.Goals as goal

pub overflow_mul-result : goal.overflow_mul-result
unfolding net_of
overflow_mul-result c =
    record { fits = omega (arith, c.wire_count.ensures, trace-small c.args.depth c.wire_count.result c.requires.1 (omega (arith, c.wire_count.ensures, c.requires.0))) }

pub returns : goal.returns
unfolding net_of
returns c =
    rw c.wire_count.ensures
