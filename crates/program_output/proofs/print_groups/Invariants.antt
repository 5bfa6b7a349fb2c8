-- `program_output::print_groups` meets its contract. The loop's invariant: wherever the first group stands, what is printed is the text of
-- the groups from it on, `next` comes after them, and nothing is printed yet or fewer groups remain.

use Prim.Native.Nat.{ℕ, ◌≤◌, ◌<◌}
use mathlib.Core.Path.{◌≡◌}
use mathlib.Core.List.{List, ◌++◌}
use mathlib.Core.Logic.{◌⊎◌}
use lib.ListN.{length}
use Rattle.std.specs.Prelude.{Option}
use Rattle.model.specs.Netlist.{ports}
use Rattle.model.specs.Groups.{group_order}
use Rattle.model.specs.declared.Group.{Group}
use Rattle.netlist.specs.NetOf.{net_of}
use Rattle.group_order.specs.Next.{first_group, remaining_from}
use Rattle.program_output.proofs.Pieces.{SoFar}
use Rattle.program_output.proofs.print_groups.Given as goal

-- nothing is printed yet, or fewer groups remain
abbrev pub Begun : ℕ → ℕ → ℕ → Option Group → Option Group → Type 0
Begun ports k bytes next next₀ = ((bytes ≡ 0) × (next ≡ next₀)) ⊎ (remaining_from ports k next < remaining_from ports k next₀)

abbrev pub invariant-loop-bytes : goal.invariant-loop-bytes
invariant-loop-bytes l =
    (l.bytes ≤ length l.text) × (length l.text ≡ length l.initial.text) × (length l.numbers ≡ length l.initial.numbers)
    × ((before from : List Group) → group_order (ports (net_of l.net l.latches l.gates)) l.depth ≡ before ++ from → l.initial.next ≡ first_group from
    → SoFar (net_of l.net l.latches l.gates) l.depth l.initial.text l.text l.bytes l.next from)
    × Begun (ports (net_of l.net l.latches l.gates)) l.depth l.bytes l.next l.initial.next

abbrev pub decreases-loop-bytes : goal.decreases-loop-bytes
decreases-loop-bytes l = remaining_from (ports (net_of l.net l.latches l.gates)) l.depth l.next
