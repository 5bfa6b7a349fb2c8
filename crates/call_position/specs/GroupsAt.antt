-- A group of a running record's frame (RULES R7 and T51). Cited by `write_group_at` and by the exported function.
use Rattle.std.specs.Prelude.{ℕ, ◌≡◌, List, ℤ, length}
use Rattle.refusals.specs.Verdict.{Verdict}
use Rattle.model.specs.Netlist.{Netlist}
use Rattle.model.specs.Numbers.{numbers_of}
use Rattle.model.specs.declared.Group.{Group}
use Rattle.refusals.specs.Tests.{◌then◌}
use Rattle.refusals.specs.Slices.{with_count, contents_after}
use Rattle.refusals.specs.declared.CountReply.{CountReply}
use Rattle.netlist_tests.specs.Record.{record_verdict}
use Rattle.call_unpacked.specs.Calls.{test_depth, test_group, test_group_room, group_sent, group_leaves}
use Rattle.call_position.specs.Positions.{test_frame, Stands}
use Rattle.call_position.specs.declared.Position.{Position}

-- RULES T51: "the record with its lists, then 7, 8, 16, 9"
unfoldable pub group_at_verdict : Netlist → ℕ → ℕ → Position → Group → ℕ → Verdict
group_at_verdict c latch_count gate_count p g room =
    record_verdict c latch_count gate_count then test_depth p.depth then test_group c p.depth g then test_frame c p p.frame
    then test_group_room c p.depth g room

-- what the call answers, and what it leaves in the slice
unfoldable pub group_at_sent : Netlist → ℕ → ℕ → Position → Group → ℕ → CountReply
group_at_sent c latch_count gate_count p g room =
    with_count (group_at_verdict c latch_count gate_count p g room) (length (numbers_of c p.depth g))

unfoldable pub group_at_leaves : Netlist → ℕ → ℕ → Position → Group → List ℤ → List ℤ
group_at_leaves c latch_count gate_count p g old =
    contents_after (group_at_verdict c latch_count gate_count p g (length old)) (numbers_of c p.depth g) old

-- RULES R7: through a record that stands on its frame it is the group by frame number, in what it answers and in what it leaves
abbrev pub ByFrame : Netlist → ℕ → ℕ → Position → Group → List ℤ → Type 0
ByFrame c latch_count gate_count p g old = Stands c p
    → (group_at_sent c latch_count gate_count p g (length old) ≡ group_sent c latch_count gate_count p.depth g (length old))
    × (group_at_leaves c latch_count gate_count p g old ≡ group_leaves c latch_count gate_count p.depth g old)
