-- Laws of specs/GroupsAt.antt: what decides a group through a record, and that it is the group by frame number. No contract cites this file.
use Prim.Native.Nat.{ℕ}
use mathlib.Core.Path.{◌≡◌, sym, ◌∙◌, ap}
use mathlib.Core.List.{List}
use lib.IntN.{ℤ}
use Rattle.refusals.specs.Verdict.{Verdict}
use Rattle.model.specs.Netlist as M
use Rattle.model.specs.declared.Group.{Group}
use Rattle.refusals.specs.Tests.{◌then◌}
use Rattle.refusals.proofs.Tests.{passed_then}
use Rattle.netlist_tests.specs.Record.{record_verdict}
use Rattle.call_unpacked.specs.Calls.{test_depth, test_group, test_group_room, group_verdict, group_sent, group_leaves}
use Rattle.call_unpacked.proofs.Calls.{group-more}
use Rattle.call_position.specs.Positions.{test_frame}
use Rattle.call_position.specs.GroupsAt.{group_at_verdict, group_at_sent, group_at_leaves, ByFrame}
use Rattle.call_position.specs.declared.Position.{Position}
use Rattle.call_position.proofs.Positions.{stands-passes}

module _ (c : M.Netlist) (latch_count gate_count : ℕ) (p : Position) where
  -- the verdict from those of its parts
  pub group-at-tested : (g : Group) (room : ℕ) {v w : Verdict}
      → v ≡ (record_verdict c latch_count gate_count then test_depth p.depth then test_group c p.depth g) → w ≡ test_frame c p p.frame
      → group_at_verdict c latch_count gate_count p g room ≡ v then w then test_group_room c p.depth g room
  unfolding group_at_verdict
  group-at-tested g room {v} e f =
      group-more c latch_count gate_count p.depth g (test_frame c p p.frame then test_group_room c p.depth g room) e
      ∙ ap (λ w. v then w then test_group_room c p.depth g room) (sym f)

  -- the groups of a record that stands on its frame are those by frame number
  pub by-frame : (g : Group) (old : List ℤ) → ByFrame c latch_count gate_count p g old
  unfolding group_at_sent group_at_leaves group_at_verdict group_sent group_leaves group_verdict
  by-frame g old h = (rw (stands-passes c p h, passed_then), rw (stands-passes c p h, passed_then))
