-- The theorem of specs/RightAnswer.antt: an answer is replayed as an assignment that completes it. No contract cites this file.
use Prim.Native.Nat.{ℕ, suc, ◌+◌, ◌/◌, ◌≤◌}
use mathlib.Core.Path.{◌≡◌, refl, sym, ◌∙◌, ap}
use mathlib.Core.Bool.{false, not}
use native.Mathlib.Omega.{arith}
use borrow.Author.Tests.{le-ltb}
use Rattle.model.specs.Netlist.{Netlist, last_wire}
use Rattle.model.specs.Acceptance.{Accepted}
use Rattle.model.specs.Numbers.{Assignment}
use Rattle.model.specs.Claim.{Satisfies}
use Rattle.model.proofs.Circuit.{code_same}
use Rattle.model.proofs.Search.{none_below, first_where-is, first-least}
use Rattle.refusals.specs.Tests.{◌then◌}
use Rattle.replay_frame.specs.Replay.{Said, replayed, feed_fault, violates, first_violation, BearsOut}
use Rattle.replay_frame.proofs.SaidAlike.{runs-alike}
use Rattle.replay_frame.proofs.RightAnswer.{right-said}
use Rattle.replay_call.specs.ReplayCall.{fed_fault, run_verdict, unless_refused, outcome}
use Rattle.replay_call.specs.RightAnswer.{Completes, RightAnswerTheorem}
use Rattle.replay_call.proofs.Settled.{said-alike}

module _ {c : Netlist} (ok : Accepted c) (y : Said) (k : ℕ) (none : fed_fault c y k ≡ false) (a : Assignment) (completes : Completes y a) where
  -- the assignment, with the same variables unclear
  abbrev completed : Said
  completed = record { value = a; unclear = y.unclear }

  -- it is replayed as the answer
  runs : (i : ℕ) → i ≤ k → (w : ℕ) → w ≤ last_wire c → replayed c y i w ≡ replayed c completed i w
  runs i d = runs-alike ok i (said-alike ok (λ v. refl) completes (suc i) (λ j h. (none_below (feed_fault c y) (k + 1)).0 none j (omega arith)))

  borne-out : Satisfies c k a → BearsOut c y k a
  unfolding first_violation violates
  borne-out h =
      let shown = right-said ok completed k h in
      let first = first_violation c completed k in
      let broken : violates c y first ≡ violates c completed first
      = ap not (code_same (replayed c y first) (replayed c completed first) c.P (runs first shown.breaks (c.P / 2) (omega (arith, ok.limits.codes.P-fits)))) in
      let there = (first_where-is (violates c completed) (k + 1)).holds-there (omega (arith, shown.breaks)) in
      let least : first_violation c y k ≤ first = first-least (first_where-is (violates c y) (k + 1)) (broken ∙ there) in
      record {
        as-assigned = λ i d w l b. shown.as-assigned i d w l b ∙ sym (runs i d w b);
        breaks = omega (arith, shown.breaks);
      }

pub right_answer : RightAnswerTheorem
unfolding outcome run_verdict unless_refused ◌then◌
right_answer c ok y k none a completes h =
    let shown = borne-out ok y k none a completes h in (shown, rw (none, le-ltb k (first_violation c y k) shown.breaks))
