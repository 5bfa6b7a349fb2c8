-- `frames::print_clauses` meets its contract. The loop's invariant: what was written is the output up to the group that comes next, whose text and
-- that of the groups behind it is due. Each piece leaves fewer groups, so the loop ends; and no piece is longer than its buffer, so the count fits.

use Prim.Native.Nat.{◌+◌, ◌*◌, ◌≤◌}
use mathlib.Core.Path.{◌≡◌}
use lib.ListN.{length}
use Rattle.model.specs.Netlist.{ports}
use Rattle.netlist.specs.NetOf.{net_of, alone}
use Rattle.text_writer.specs.Table.{table_below}
use Rattle.group_order.specs.Next.{remaining_from}
use Rattle.program_output.specs.Printed.{frames_text}
use Rattle.program_output.proofs.Printed.{PrintedSo}
use Rattle.frames.specs.Written.{Written}
use Rattle.frames.proofs.Written.{between}
use Rattle.frames.proofs.print_clauses.Given as goal

abbrev pub invariant-loop-next : goal.invariant-loop-next
invariant-loop-next g l =
    (length l.text ≡ 131072) × (length l.numbers ≡ 5992) × (l.table ≡ table_below 10000)
    × PrintedSo (frames_text l.input) (net_of l.net l.latches l.gates) l.depth l.sent l.next × (l.sent + remaining_from (ports (alone l.net)) l.depth l.next * 131072 ≤ 18000000000)
    × (l.initial.sent ≤ l.sent)
    × Written l.initial.failed l.failed (g.W.Write.contents l.initial.output) (g.W.Write.contents l.output) (between l.initial.sent l.sent (frames_text l.input))

abbrev pub decreases-loop-next : goal.decreases-loop-next
decreases-loop-next g l = remaining_from (ports (alone l.net)) l.depth l.next
