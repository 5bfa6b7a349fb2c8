-- `refutation_formula::put_formula` meets its contract. The loop's invariant: the groups before the one that is next are put, and with as many numbers as
-- a group has at most for each that remains, the count fits.

use Prim.Native.Nat.{◌+◌, ◌*◌, ◌≤◌}
use mathlib.Core.Path.{◌≡◌}
use lib.ListN.{length}
use Rattle.model.specs.Netlist.{ports}
use Rattle.netlist.specs.NetOf.{net_of, alone}
use Rattle.group_order.specs.Next.{remaining_from}
use Rattle.refutation_formula.proofs.SoFar.{SoFar}
use Rattle.refutation_formula.proofs.put_formula.Given as goal

abbrev pub invariant-loop-next : goal.invariant-loop-next
invariant-loop-next l =
    (length l.numbers ≡ 5992) × SoFar (net_of l.net l.latches l.gates) l.depth l.initial.out l.out l.at l.next
    × (l.at + remaining_from (ports (alone l.net)) l.depth l.next * 5992 ≤ 783867448)

abbrev pub decreases-loop-next : goal.decreases-loop-next
decreases-loop-next l = remaining_from (ports (alone l.net)) l.depth l.next
