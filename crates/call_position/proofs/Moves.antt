-- Laws of specs/Moves.antt: what decides a move, and where it leads. No contract cites this file.
use Prim.Native.Nat.{ℕ, ◌+◌}
use mathlib.Core.Path.{◌≡◌, refl, sym, ◌∙◌, ap}
use mathlib.Core.List.{List}
use native.Mathlib.Omega.{arith}
use Rattle.std.specs.Prelude.{Ok, Err}
use Rattle.refusals.specs.Verdict.{Verdict, Passed}
use Rattle.model.specs.Netlist as M
use Rattle.refusals.specs.Tests.{◌then◌}
use Rattle.refusals.proofs.Table.{refusal_number-some}
use Rattle.refusals.proofs.Tests.{refused-not-passed, rest-passes}
use Rattle.netlist.specs.NetOf.{net_of, alone}
use Rattle.netlist.specs.declared.Netlist.{Netlist}
use Rattle.netlist.proofs.NetOf.{base-lists}
use Rattle.netlist_tests.specs.Record.{record_verdict}
use Rattle.call_unpacked.specs.Calls.{test_depth}
use Rattle.call_unpacked.proofs.Calls.{depth-more}
use Rattle.call_position.specs.Positions.{Stands}
use Rattle.call_position.specs.Moves.{test_move, move_verdict, moved_to, kept_at, with_position, move_sent, MoveStands}
use Rattle.call_position.specs.declared.Position.{Position}
use Rattle.call_position.specs.declared.Move.{Move}
use Rattle.call_position.specs.declared.Move.TheVariants.{Begin, On, Back, NoMove}
use Rattle.call_position.proofs.Positions.{frame-shown, test_frame-lists}

-- lists have no part in the tests of a move and in where it leads
module _ (net : Netlist) (latches gates : List ℕ) (p : Position) where
  pub test_move-lists : (way : Move) → test_move (alone net) p way ≡ test_move (net_of net latches gates) p way
  unfolding test_move
  test_move-lists Begin = refl
  test_move-lists On = test_frame-lists net latches gates p (p.frame + 1)
  test_move-lists Back = test_frame-lists net latches gates p p.frame
  test_move-lists NoMove = refl

  pub moved_to-lists : (way : Move) → moved_to (alone net) p way ≡ moved_to (net_of net latches gates) p way
  unfolding moved_to
  moved_to-lists Begin = rw (base-lists net latches gates 0)
  moved_to-lists On = rw (base-lists net latches gates (p.frame + 1))
  moved_to-lists Back = rw (base-lists net latches gates 0)
  moved_to-lists NoMove = refl

module _ (c : M.Netlist) (latch_count gate_count : ℕ) (p : Position) where
  -- the verdict of a move from those of its parts
  pub move-tested : (way : Move) {v w : Verdict} → v ≡ (record_verdict c latch_count gate_count then test_depth p.depth) → w ≡ test_move c p way
      → move_verdict c latch_count gate_count p way ≡ v then w
  unfolding move_verdict
  move-tested way {v} e f = depth-more c latch_count gate_count p.depth (test_move c p way) e ∙ ap (λ w. v then w) (sym f)

  -- a move that is not refused leads to a frame of the depth, with that frame's base
  moved-stands : (way : Move) → test_move c p way ≡ Passed → Stands c (moved_to c p way)
  unfolding moved_to test_move
  moved-stands Begin h = record { there = omega arith; stored = refl }
  moved-stands On h = record { there = (frame-shown c p (p.frame + 1) h).0; stored = refl }
  moved-stands Back h = record { there = omega arith; stored = refl }
  moved-stands NoMove h = absurd (refused-not-passed h)

  pub move-stands : (way : Move) → MoveStands c (move_sent c latch_count gate_count p way)
  unfolding move_sent with_position move_verdict
  move-stands way = sent (move_verdict c latch_count gate_count p way) refl
    where
      sent : (v : Verdict) → move_verdict c latch_count gate_count p way ≡ v → MoveStands c (with_position v (moved_to c p way) (kept_at p way))
      sent (Ok _) e h =
          moved-stands way
          (rest-passes (test_depth p.depth) _ (rest-passes (record_verdict c latch_count gate_count) _ e))
      sent (Err f) e h = absurd (omega (arith, refusal_number-some f.0))
