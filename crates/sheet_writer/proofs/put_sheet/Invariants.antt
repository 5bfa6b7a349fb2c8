-- `sheet_writer::put_sheet` meets its contract. The loop has written the lines up to the place.

use Prim.Native.Nat.{ℕ, ◌+◌, ◌*◌, ◌≤◌}
use mathlib.Core.Path.{◌≡◌}
use mathlib.Core.List.{List}
use lib.ListN.{length}
use Rattle.model.specs.Gather.{gather}
use Rattle.model.specs.Wrote.{Wrote}
use Rattle.netlist.specs.NetOf.{net_of, alone}
use Rattle.netlist.specs.Places.{line_at}
use Rattle.netlist.specs.declared.Netlist.{Netlist}
use Rattle.sheet_text.specs.PrintedAt.{printed_at}
use Rattle.sheet_writer.proofs.put_sheet.Given as goal

-- the line behind the first p lines
abbrev pub line_behind : Netlist → List ℕ → List ℕ → ℕ → List ℕ
line_behind net latches gates p = printed_at (net_of net latches gates) (line_at (alone net) (p + 1))

abbrev pub invariant-loop-place : goal.invariant-loop-place
invariant-loop-place l =
    (length l.out ≡ length l.initial.out) × (l.at ≤ l.place * 32) × Wrote (gather l.place (line_behind l.net l.latches l.gates)) l.initial.out l.out l.at
