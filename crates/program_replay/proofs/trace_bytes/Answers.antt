-- `program_replay::trace_bytes` meets its contract: the longest trace has 256 lines of 601 bytes.

use mathlib.Core.Path.{sym, ◌∙◌}
use native.Mathlib.Omega.{arith}
use Rattle.model.specs.Netlist.{last_wire}
use Rattle.netlist.specs.NetOf.{alone}
use Rattle.replay_call.proofs.ReplayCall.{trace-small}
use Rattle.program_replay.proofs.trace_bytes.Goals as goal

pub returns-then-is_broken : goal.returns-then-is_broken
returns-then-is_broken c =
    let broken = sym c.is_broken.ensures ∙ c.if-is_broken.true in
    record { bytes = rw broken c.trace_length.ensures; most = omega (arith, c.trace_length.ensures, trace-small c.args.depth (last_wire (alone c.args.net)) c.requires.1 c.requires.0.wires-fit) }

pub returns : goal.returns
returns c =
    let broken = sym c.is_broken.ensures ∙ c.if-is_broken.false in
    record { bytes = rw broken; most = omega arith }
