-- The moves of a running record (RULES R2 to R5, R9 and T50). Cited by `move_position` and by the exported function.
use Rattle.std.specs.Prelude.{ℕ, ◌+◌, ◌≡◌, cond, eqb}
use Rattle.refusals.specs.Verdict.{Verdict, Passed, refuse}
use Rattle.model.specs.Netlist.{Netlist}
use Rattle.refusals.specs.Refusal.{reply_of}
use Rattle.refusals.specs.Tests.{◌then◌, if_passed}
use Rattle.refusals.specs.declared.Refusal.TheVariants.{NoSuchGroup}
use Rattle.netlist_tests.specs.Record.{record_verdict}
use Rattle.call_unpacked.specs.Calls.{test_depth}
use Rattle.call_position.specs.Positions.{at_frame, test_frame, Stands}
use Rattle.call_position.specs.declared.Position.{Position}
use Rattle.call_position.specs.declared.PositionReply.{PositionReply}
use Rattle.call_position.specs.declared.Move.{Move}
use Rattle.call_position.specs.declared.Move.TheVariants.{Begin, On, Back, NoMove}

-- RULES R9: "0 is a start, 1 is on, 2 is back. Any other number is no move"
unfoldable pub move_of : ℕ → Move
move_of way = cond (eqb way 0) Begin (cond (eqb way 1) On (cond (eqb way 2) Back NoMove))

-- 8 and 16 of a move: moving on wants the frame behind the record's, going back the record's own; what is no move
-- (RULES R9) is 8
unfoldable pub test_move : Netlist → Position → Move → Verdict
test_move c p Begin = Passed
test_move c p On = test_frame c p (p.frame + 1)
test_move c p Back = test_frame c p p.frame
test_move c p NoMove = refuse NoSuchGroup 0

-- RULES T50: "the record with its lists, then 7, 8, 16"
unfoldable pub move_verdict : Netlist → ℕ → ℕ → Position → Move → Verdict
move_verdict c latch_count gate_count p way = record_verdict c latch_count gate_count then test_depth p.depth then test_move c p way

-- where a move leads (RULES R2 to R4), and what is handed back of one that is refused (RULES R5 and R9)
unfoldable pub moved_to : Netlist → Position → Move → Position
moved_to c p Begin = at_frame c p.depth 0
moved_to c p On = at_frame c p.depth (p.frame + 1)
moved_to c p Back = at_frame c p.depth 0
moved_to c p NoMove = p

unfoldable pub kept_at : Position → Move → Position
kept_at p Begin = record { depth = 0; frame = 0; base = 0 }
kept_at p On = p
kept_at p Back = p
kept_at p NoMove = p

unfoldable pub with_position : Verdict → Position → Position → PositionReply
with_position v new old = record { number = (reply_of v).number; place = (reply_of v).place; position = if_passed v new old }

-- what a move answers
unfoldable pub move_sent : Netlist → ℕ → ℕ → Position → Move → PositionReply
move_sent c latch_count gate_count p way = with_position (move_verdict c latch_count gate_count p way) (moved_to c p way) (kept_at p way)

-- RULES R6: after every move that is not refused the base is B of the frame
abbrev pub MoveStands : Netlist → PositionReply → Type 0
MoveStands c r = r.number ≡ 0 → Stands c r.position
