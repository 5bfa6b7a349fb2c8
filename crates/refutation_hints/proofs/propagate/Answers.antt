-- `refutation_hints::propagate` meets its contract. The hints that are left lead from what is false now where all hints led from what was false.

use Prim.Native.Nat.{ℕ, ◌+◌, ◌/◌, ◌≤◌, ◌<◌}
use mathlib.Core.Path.{◌≡◌, refl, sym, ◌∙◌, fun_ext}
use mathlib.Core.Bool.{Bool, true, false, ◌||◌}
use mathlib.Core.List.{List}
use native.Mathlib.Numerals.{add-one}
use native.Mathlib.Omega.{arith}
use lib.IntN.{ℤ, neg_ℤ}
use lib.ListN.{length, get_or, drop, length-set, drop_of_length-le}
use lib.Seq.{drop-cons}
use Rattle.answer_signs.specs.Signs.{same_number}
use Rattle.refutation_hints.specs.Propagation.{conflict, unit, undecided, hint_outcome, propagates}
use Rattle.refutation_hints.specs.Marks.{slot_of, false_in, code_of}
use Rattle.refutation_hints.proofs.Marks.{false-more, up_to-more}
use Rattle.refutation_hints.proofs.Outcomes.{hint-sane, code-conflict, code-undecided, IsUnit, code-unit}
use Rattle.refutation_hints.proofs.propagate.Goals as goal
use Rattle.refutation_hints.proofs.propagate.Goals.{After-opposite-other}

-- one hint more
module _ (n : ℕ) (known : List ℤ) (f : ℤ → Bool) (hints : List ℕ) (i : ℕ) (l : i < length hints) where
  propagates-conflict : hint_outcome n known f (get_or hints i 0) ≡ conflict → propagates n known f (drop i hints) ≡ true
  unfolding propagates
  propagates-conflict e = rw (drop-cons hints i 0 l, e, propagates)

  propagates-undecided : hint_outcome n known f (get_or hints i 0) ≡ undecided → propagates n known f (drop i hints) ≡ false
  unfolding propagates
  propagates-undecided e = rw (drop-cons hints i 0 l, e, propagates)

  propagates-unit : (z : ℤ) → hint_outcome n known f (get_or hints i 0) ≡ unit z
      → propagates n known f (drop i hints) ≡ propagates n known (λ y. same_number y (neg_ℤ z) || f y) (drop (i + 1) hints)
  unfolding propagates
  propagates-unit z e = rw (add-one, drop-cons hints i 0 l, e, propagates)

propagates-none : (n : ℕ) (known : List ℤ) (f : ℤ → Bool) (hints : List ℕ) (i : ℕ) → length hints ≤ i → propagates n known f (drop i hints) ≡ false
unfolding propagates
propagates-none n known f hints i l = rw (drop_of_length-le hints l)

pub loop-hint-init : goal.loop-hint-init
loop-hint-init c = (refl, c.requires, refl)

pub returns-then-outcome-eq0 : goal.returns-then-outcome-eq0
returns-then-outcome-eq0 c =
    let n = length c.loop-hint.marks / 2 in
    let f = false_in c.loop-hint.marks c.args.turn in
    let h = get_or c.args.hints.now c.loop-hint.hint-index 0 in
    let is = code-conflict n (hint_outcome n c.args.known.now f h) (hint-sane n c.args.known.now f h) (sym c.hint_outcome-outcome.ensures ∙ c.if-outcome-eq0.true) in
    record { answer = sym (propagates-conflict n c.args.known.now f c.args.hints.now c.loop-hint.hint-index c.loop-hint-test.true is) ∙ c.loop-hint.invariant.2; scratch = c.loop-hint.invariant.1 }

pub returns-then-outcome-eq1 : goal.returns-then-outcome-eq1
returns-then-outcome-eq1 c =
    let n = length c.loop-hint.marks / 2 in
    let f = false_in c.loop-hint.marks c.args.turn in
    let h = get_or c.args.hints.now c.loop-hint.hint-index 0 in
    let is = code-undecided n (hint_outcome n c.args.known.now f h) (hint-sane n c.args.known.now f h) (sym c.hint_outcome-outcome.ensures ∙ c.if-outcome-eq1.true) in
    record { answer = sym (propagates-undecided n c.args.known.now f c.args.hints.now c.loop-hint.hint-index c.loop-hint-test.true is) ∙ c.loop-hint.invariant.2; scratch = c.loop-hint.invariant.1 }

-- the hint's clause is a unit
its-unit : (known : List ℤ) (marks : List ℕ) (turn hint outcome : ℕ)
    → outcome ≡ code_of (hint_outcome (length marks / 2) known (false_in marks turn) hint) → (outcome ≡ 0 → ⊥) → (outcome ≡ 1 → ⊥)
    → IsUnit (length marks / 2) (hint_outcome (length marks / 2) known (false_in marks turn) hint)
its-unit known marks turn hint outcome e no-conflict decided =
    let n = length marks / 2 in
    let f = false_in marks turn in
    code-unit n (hint_outcome n known f hint) (hint-sane n known f hint) (λ p. no-conflict (e ∙ p)) (λ p. decided (e ∙ p))

pub opposite-other-requires : goal.opposite-other-requires
opposite-other-requires c = omega (arith, c.hint_outcome-outcome.ensures, (its-unit c.args.known.now c.loop-hint.marks c.args.turn (get_or c.args.hints.now c.loop-hint.hint-index 0) c.hint_outcome-outcome.result c.hint_outcome-outcome.ensures c.if-outcome-eq0.false c.if-outcome-eq1.false).least)

-- the mark of its opposite
room : (c : After-opposite-other) → c.opposite-other.result < length c.loop-hint.marks
room c = omega (arith, c.hint_outcome-outcome.ensures, (its-unit c.args.known.now c.loop-hint.marks c.args.turn (get_or c.args.hints.now c.loop-hint.hint-index 0) c.hint_outcome-outcome.result c.hint_outcome-outcome.ensures c.if-outcome-eq0.false c.if-outcome-eq1.false).most, c.opposite-other.ensures.1)

pub offset_bounds-marks-other : goal.offset_bounds-marks-other
offset_bounds-marks-other c =
    record { fits = omega (arith, room c, c.loop-hint.invariant.0, c.well_formed.1.1.0.1) }

pub bounds-marks-other : goal.bounds-marks-other
bounds-marks-other c = room c

pub loop-hint-preserved : goal.loop-hint-preserved
loop-hint-preserved c =
    let n = length c.loop-hint.marks / 2 in
    let f = false_in c.loop-hint.marks c.args.turn in
    let u = its-unit c.args.known.now c.loop-hint.marks c.args.turn (get_or c.args.hints.now c.loop-hint.hint-index 0) c.hint_outcome-outcome.result c.hint_outcome-outcome.ensures c.if-outcome-eq0.false c.if-outcome-eq1.false in
    let is : c.opposite-other.result ≡ slot_of (neg_ℤ u.z) = c.opposite-other.ensures.0 u.z (u.slot ∙ sym c.hint_outcome-outcome.ensures) in
    let more = fun_ext (false-more c.loop-hint.marks c.args.turn (neg_ℤ u.z) (rw is at (room (goal.at.loop-hint-preserved c).After-opposite-other))) in
    let on = propagates-unit n c.args.known.now f c.args.hints.now c.loop-hint.hint-index c.loop-hint-test.true u.z u.is in (
      simp length-set c.loop-hint.invariant.0,
      up_to-more c.loop-hint.marks c.args.turn c.opposite-other.result (room (goal.at.loop-hint-preserved c).After-opposite-other) c.loop-hint.invariant.1,
      rw (length-set, is, more) (sym on ∙ c.loop-hint.invariant.2),
    )

pub returns : goal.returns
returns c =
    record { answer = sym (propagates-none (length c.loop-hint.marks / 2) c.args.known.now (false_in c.loop-hint.marks c.args.turn) c.args.hints.now c.loop-hint.hint-index c.loop-hint-test.false) ∙ c.loop-hint.invariant.2; scratch = c.loop-hint.invariant.1 }
