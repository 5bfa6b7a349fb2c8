-- `refutation_lemmas::check` meets its contract. The lemmas and hints that are left are found to be what all of them are.

use Prim.Native.Nat.{ℕ, ◌+◌, ◌-◌, ◌/◌, ◌≤◌}
use mathlib.Core.Path.{◌≡◌, refl, sym, ap, ◌∙◌}
use mathlib.Core.Bool.{Bool, true, false, cond, ◌&&◌}
use mathlib.Core.List.{List}
use native.Mathlib.Omega.{arith}
use borrow.Author.Tests.{eq-eqb, ne_eqb, leb-true}
use lib.Dec.{eqb, leb}
use lib.IntN.{ℤ}
use lib.ListN.{length, get_or, take, drop, length-drop}
use Rattle.model.specs.Numbers.{clauses_in}
use Rattle.model.proofs.Booleans.{and-true}
use Rattle.refutation_hints.specs.Propagation.{follows}
use Rattle.refutation_lemmas.specs.Refutation.{checked_from, checked, Unsatisfiable}
use Rattle.refutation_lemmas.specs.declared.Checked.{Checked}
use Rattle.refutation_lemmas.specs.declared.Checked.TheVariants.{Refuted, Unjustified}
use Rattle.refutation_lemmas.proofs.Lemmas.{checked-here, checked-none, checked-over}
use Rattle.refutation_lemmas.proofs.Soundness.{refuted-unsatisfiable}
use Rattle.refutation_lemmas.proofs.check.Goals as goal
use Rattle.refutation_lemmas.proofs.check.Goals.{After-is_justified}

-- what is found of all lemmas is refuted only where the formula is
found : (formula lemmas : List ℤ) (hints : List ℕ) (k m left : ℕ) (r : Checked) → k ≡ m → left ≡ k → r ≡ checked (k / 2) formula lemmas hints
    → (r ≡ checked (m / 2) formula lemmas hints) × ((r ≡ Refuted → Unsatisfiable formula) × (left ≡ m))
found formula lemmas hints k m left r e l p =
    (p ∙ ap (λ (j : ℕ). checked (j / 2) formula lemmas hints) e, (λ q. refuted-unsatisfiable (k / 2) formula lemmas hints (sym p ∙ q), l ∙ e))

module _ (c : After-is_justified) where
  -- what a lemma is checked with
  abbrev n : ℕ
  n = length c.clear.new.marks / 2

  abbrev end : ℕ
  end = c.clause_end-end.result

  abbrev count : ℕ
  count = get_or c.args.hints.now c.loop-i.i 0

  abbrev enough : Bool
  enough = leb count (length (drop (c.loop-i.i + 1) c.args.hints.now))

  abbrev lemma-follows : Bool
  lemma-follows =
      follows n (take c.loop-i.at c.args.store.now)
      (take (end - c.loop-i.at) (drop c.loop-i.at c.args.store.now))
      (take count (drop (c.loop-i.i + 1) c.args.hints.now))

  -- the marks are as many as they were
  as_many : length c.is_justified.new.marks ≡ length c.clear.new.marks
  as_many = c.is_justified.auto.marks ∙ c.next_turn-turn.auto.marks ∙ c.loop-i.invariant.2

  justified : c.is_justified.result ≡ (enough && lemma-follows)
  justified =
      c.is_justified.ensures.answer
      ∙ ap
      (λ (k : ℕ).
      enough
      && follows (k / 2) (take c.loop-i.at c.args.store.now)
      (take (end - c.loop-i.at) (drop c.loop-i.at c.args.store.now))
      (take count (drop (c.loop-i.i + 1) c.args.hints.now)))
      (c.next_turn-turn.auto.marks ∙ c.loop-i.invariant.2)

  -- and what is found of the lemmas behind it
  abbrev rest : Checked
  rest =
      checked_from n (take (end + 1) c.args.store.now) (clauses_in (drop (end + 1) c.args.store.now))
      (drop (c.loop-i.i + 1 + count) c.args.hints.now) (c.loop-i.lemma + 1)

  step :
      (t q : Bool) → c.is_justified.result ≡ t → eqb end c.loop-i.at ≡ q
      → checked_from n (take c.loop-i.at c.args.store.now) (clauses_in (drop c.loop-i.at c.args.store.now))
      (drop c.loop-i.i c.args.hints.now) c.loop-i.lemma
      ≡ cond t (cond q Refuted rest) (Unjustified c.loop-i.lemma)
  step t q p e =
      checked-here c.args.store.now c.loop-i.at end c.clause_end-end.ensures c.if-store-end.false n
      c.args.hints.now c.loop-i.i c.loop-i.lemma c.loop-i-test.true
      ∙ ap (λ (x : Bool). cond x (cond (eqb end c.loop-i.at) Refuted rest) (Unjustified c.loop-i.lemma)) (sym justified ∙ p)
      ∙ ap (λ (x : Bool). cond t (cond x Refuted rest) (Unjustified c.loop-i.lemma)) e

  -- its hints are there
  hints-there : c.is_justified.result ≡ true → c.loop-i.i + 1 + count ≤ length c.args.hints.now
  hints-there t =
      let there = leb-true count (length (drop (c.loop-i.i + 1) c.args.hints.now)) ((and-true enough lemma-follows).0 (sym justified ∙ t)).0 in
      omega (arith, simp length-drop at there, c.loop-i-test.true)

pub loop-i-init : goal.loop-i-init
unfolding checked
loop-i-init c = (omega arith, omega arith, refl, c.clear.ensures, refl)

pub shape_of-marks-then-store-end : goal.shape_of-marks-then-store-end
shape_of-marks-then-store-end c = c.loop-i.invariant.2 ∙ c.clear.auto.marks

pub returns-then-store-end : goal.returns-then-store-end
returns-then-store-end c =
    let is = found (take c.args.front c.args.store.now) (drop c.args.front c.args.store.now) c.args.hints.now (length c.clear.new.marks) (length c.args.marks.now) _ _ c.clear.auto.marks c.loop-i.invariant.2
    (sym (checked-none (length c.clear.new.marks / 2) c.args.store.now c.loop-i.at c.clause_end-end.result c.clause_end-end.ensures c.if-store-end.true (drop c.loop-i.i c.args.hints.now) c.loop-i.lemma) ∙ c.loop-i.invariant.4) in
    record { answer = is.0; refuted = is.1.0; scratch = is.1.1 }

pub is_justified-requires : goal.is_justified-requires
is_justified-requires c = (
  omega (arith, c.clause_end-end.ensures),
  omega (arith, c.if-store-end.false),
  omega (arith, c.loop-i-test.true),
  c.next_turn-turn.ensures,
)

pub shape_of-marks-then-end-at : goal.shape_of-marks-then-end-at
shape_of-marks-then-end-at c = as_many (goal.at.shape_of-marks-then-end-at c).After-is_justified ∙ c.clear.auto.marks

pub returns-then-end-at : goal.returns-then-end-at
returns-then-end-at c =
    let here = step (goal.at.returns-then-end-at c).After-is_justified true true c.if-is_justified.true (eq-eqb c.clause_end-end.result c.loop-i.at c.if-end-at.true) in
    let is = found (take c.args.front c.args.store.now) (drop c.args.front c.args.store.now) c.args.hints.now (length c.clear.new.marks) (length c.args.marks.now) _ _ c.clear.auto.marks (as_many (goal.at.returns-then-end-at c).After-is_justified)
    (sym here ∙ c.loop-i.invariant.4) in
    record { answer = is.0; refuted = is.1.0; scratch = is.1.1 }

pub overflow_add-i : goal.overflow_add-i
overflow_add-i c = omega (arith, hints-there (goal.at.overflow_add-i c).After-is_justified c.if-is_justified.true, c.well_formed.1.1.0.0)

pub overflow_add-lemma : goal.overflow_add-lemma
overflow_add-lemma c = omega (arith, hints-there (goal.at.overflow_add-lemma c).After-is_justified c.if-is_justified.true, c.loop-i.invariant.1, c.well_formed.1.1.0.0)

pub loop-i-smaller : goal.loop-i-smaller
loop-i-smaller c = omega (arith, hints-there (goal.at.loop-i-smaller c).After-is_justified c.if-is_justified.true, c.loop-i-test.true)

pub loop-i-preserved : goal.loop-i-preserved
loop-i-preserved c =
    let there = hints-there (goal.at.loop-i-preserved c).After-is_justified c.if-is_justified.true in
    let here = step (goal.at.loop-i-preserved c).After-is_justified true false c.if-is_justified.true (ne_eqb c.clause_end-end.result c.loop-i.at c.if-end-at.false) in (
      omega (arith, there),
      omega (arith, c.loop-i.invariant.1),
      as_many (goal.at.loop-i-preserved c).After-is_justified,
      c.is_justified.ensures.scratch,
      sym here ∙ c.loop-i.invariant.4,
    )

pub shape_of-marks-else-is_justified : goal.shape_of-marks-else-is_justified
shape_of-marks-else-is_justified c = as_many (goal.at.shape_of-marks-else-is_justified c).After-is_justified ∙ c.clear.auto.marks

pub returns-else-is_justified : goal.returns-else-is_justified
returns-else-is_justified c =
    let here = step (goal.at.returns-else-is_justified c).After-is_justified false (eqb c.clause_end-end.result c.loop-i.at) c.if-is_justified.false refl in
    let is = found (take c.args.front c.args.store.now) (drop c.args.front c.args.store.now) c.args.hints.now (length c.clear.new.marks) (length c.args.marks.now) _ _ c.clear.auto.marks (as_many (goal.at.returns-else-is_justified c).After-is_justified)
    (sym here ∙ c.loop-i.invariant.4) in
    record { answer = is.0; refuted = is.1.0; scratch = is.1.1 }

pub shape_of-marks : goal.shape_of-marks
shape_of-marks c = c.loop-i.invariant.2 ∙ c.clear.auto.marks

pub returns : goal.returns
returns c =
    let is = found (take c.args.front c.args.store.now) (drop c.args.front c.args.store.now) c.args.hints.now (length c.clear.new.marks) (length c.args.marks.now) _ _ c.clear.auto.marks c.loop-i.invariant.2
    (sym (checked-over (length c.clear.new.marks / 2) (take c.loop-i.at c.args.store.now) (clauses_in (drop c.loop-i.at c.args.store.now)) c.args.hints.now c.loop-i.i c.loop-i.lemma c.loop-i-test.false) ∙ c.loop-i.invariant.4) in
    record { answer = is.0; refuted = is.1.0; scratch = is.1.1 }
