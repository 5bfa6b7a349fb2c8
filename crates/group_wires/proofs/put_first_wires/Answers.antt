-- `group_wires::put_first_wires` meets its contract: the clause (1), the latches, the gates.

use native.Mathlib.Omega.{arith}
use borrow.Author.Rules.{rules}
use Rattle.clause_writer.proofs.Wrote.{wrote_then}
use Rattle.group_wires.proofs.WiresOf.{frame-without-gates, frame-without-latches, first-parts}
use Rattle.group_wires.proofs.put_first_wires.Goals as goal

pub put_resets-requires : goal.put_resets-requires
put_resets-requires c = search (rules, frame-without-gates)

pub put_gates-requires : goal.put_gates-requires
put_gates-requires c = (frame-without-latches c.args.net c.args.latches.now c.args.gates.now 0 0 c.requires.0 (omega arith), search rules)

pub returns : goal.returns
returns c =
    let one = rw c.first.ensures.literal at c.put_unit-a.ensures.0 in
    let latches = wrote_then one c.put_resets.ensures.0 in
    (rw (first-parts c.args.net c.args.latches.now c.args.gates.now 0) (wrote_then latches c.put_gates.ensures.0), search rules)
