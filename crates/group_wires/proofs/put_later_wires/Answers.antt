-- `group_wires::put_later_wires` meets its contract: the latches, then the gates.

use Prim.Native.Nat.{◌+◌}
use borrow.Author.Rules.{rules}
use Rattle.clause_writer.proofs.Wrote.{wrote_then}
use Rattle.group_wires.proofs.WiresOf.{frame-without-gates, frame-without-latches, later-parts}
use Rattle.group_wires.proofs.put_later_wires.Goals as goal

pub put_latches-a-requires : goal.put_latches-a-requires
put_latches-a-requires c = search (rules, frame-without-gates)

pub put_gates-requires : goal.put_gates-requires
put_gates-requires c = search (rules, frame-without-latches)

pub returns : goal.returns
returns c =
    (rw (later-parts c.args.net c.args.latches.now c.args.gates.now (c.args.i + 1) c.args.i) (wrote_then c.put_latches-a.ensures.0 c.put_gates.ensures.0), search rules)
