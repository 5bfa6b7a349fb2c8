-- Where an invariant passes the test of the start and no assignment makes the clauses of its step true, the property holds for ever. No contract cites
-- this file.
use Prim.Native.Nat.{ℕ, zero, suc, ◌+◌, ◌-◌, ◌*◌, ◌/◌, ◌%◌, ◌^◌, ◌≤◌, ◌<◌}
use mathlib.Core.Path.{◌≡◌, refl, sym, ◌∙◌, ap}
use mathlib.Core.Bool.{Bool, true, false, not, ◌||◌, true≢false}
use mathlib.Core.List.{List, [], ◌∷◌, ◌++◌, append_assoc}
use mathlib.Core.Logic.{◌⊎◌, inl, inr}
use native.Mathlib.Omega.{arith}
use native.Mathlib.Nat.{mul-le-mul}
use lib.Pow.{pow_pos}
use borrow.Author.Tests.{lt-ltb, ltb-true}
use lib.IntN.{ℤ, pos, negsuc}
use lib.ListN.{length, get_or}
use Rattle.model.specs.Netlist.{Netlist}
use Rattle.model.specs.Circuit.{Values, State, code_value, frame, step}
use Rattle.model.specs.Acceptance.{Accepted}
use Rattle.model.specs.Gather.{gather}
use Rattle.model.specs.Numbers.{Assignment, number_true}
use Rattle.model.proofs.Booleans.{and-true, either}
use Rattle.model.proofs.Circuit.{frame_is}
use Rattle.refutation_hints.specs.Propagation.{every, within}
use Rattle.refutation_lemmas.specs.Refutation.{Unsatisfiable}
use Rattle.model.specs.Claim.{SafeForever}
use Rattle.invariant_terms.specs.StateBits.{state_count}
use Rattle.invariant_terms.specs.Walk.{holds_in}
use Rattle.invariant_terms.proofs.StateBits.{state_value}
use Rattle.invariant_terms.proofs.StepValues.{failing, step_at}
use Rattle.invariant_terms.proofs.Induction.{inductive→forever}
use Rattle.invariant_terms.proofs.Walk.{clauses-hold}
use Rattle.invariant_axioms.specs.Laws.{requested}
use Rattle.invariant_axioms.proofs.Laws.{IsStep, requested-holds, clause-holds}
use Rattle.invariant_formula.specs.Formula.{requested_clause, step_formula}
use Rattle.invariant_formula.specs.AtStart.{holds_at_start, number_starts}
use Rattle.invariant_formula.proofs.AtStart.{holds-at-start}

-- tests that agree on the numbers of a list
holds-within : (test t u : ℤ → Bool) (f : Bool) (zs : List ℤ) → every test zs ≡ true → ((z : ℤ) → test z ≡ true → t z ≡ u z)
    → holds_in t f zs ≡ holds_in u f zs
unfolding holds_in every
holds-within test t u f [] e same = refl
holds-within test t u f (z ∷ zs) e same =
    let parts = (and-true (test z) (every test zs)).0 e in
    rw (same z parts.0, holds-within test t u false zs parts.1 same, holds-within test t u (f || u z) zs parts.1 same)

-- clauses that are true may stand in front
holds-gather : (t : ℤ → Bool) (n : ℕ) (f : ℕ → List ℤ) → ((x : ℕ) (rest : List ℤ) → holds_in t false (f x ++ rest) ≡ holds_in t false rest)
    → (rest : List ℤ) → holds_in t false (gather n f ++ rest) ≡ holds_in t false rest
unfolding gather
holds-gather t zero f each rest = refl
holds-gather t (suc n) f each rest = rw (append_assoc (gather n f) (f n) rest) (holds-gather t n f each (f n ++ rest) ∙ each n rest)

module _ (c : Netlist) (accepted : Accepted c) (zs : List ℤ) (requests : List ℕ) where
  -- what holds of a state
  abbrev Invariant : State → Type 0
  Invariant s = holds_in (number_true (state_value c s)) false zs ≡ true

  some_bits : 0 < state_count c
  unfolding state_count
  some_bits =
      let most : 1 * 1 ≤ 2 ^ c.m * c.n = mul-le-mul (pow_pos c.m) accepted.limits.sizes.n-least in
      omega arith

  module _ (s : State) (v : Values) where
    abbrev a : Assignment
    a = λ u. step_at c zs s v (u - 1)

    -- the step's variables begin with the bits of the state
    agrees : (z : ℤ) → within (suc (state_count c)) z ≡ true → number_true a z ≡ number_true (state_value c s) z
    unfolding within number_true state_value step_at
    agrees (pos u) e =
        let below : u < suc (state_count c) = ltb-true u (suc (state_count c)) e in
        rw (lt-ltb (u - 1) (state_count c) (omega (arith, some_bits)))
    agrees (negsuc u) e =
        let below : suc u < suc (state_count c) = ltb-true (suc u) (suc (state_count c)) e in
        rw (lt-ltb (suc u - 1) (state_count c) (omega (arith, some_bits)))

    formula-holds : (f : ℕ → Bool) → IsStep c zs s f v → every (within (suc (state_count c))) zs ≡ true
        → holds_in (number_true a) false (step_formula c zs requests) ≡ holds_in (number_true (state_value c s)) false zs
    unfolding step_formula requested_clause
    formula-holds f h inside =
        holds-gather (number_true a) (length requests / 3) (requested_clause c zs requests)
        (λ x rest. clause-holds (step_at c zs s v) (get_or requests (3 * x) 0 % 2)
        (requested c zs (get_or requests (3 * x) 0) (get_or requests (3 * x + 1) 0) (get_or requests (3 * x + 2) 0))
        (requested-holds h (get_or requests (3 * x) 0) (get_or requests (3 * x + 1) 0) (get_or requests (3 * x + 2) 0)) rest) zs
        ∙ holds-within (within (suc (state_count c))) (number_true a) (number_true (state_value c s)) false zs inside agrees

  module _ (starts : holds_at_start c zs ≡ true) (refuted : Unsatisfiable (step_formula c zs requests)) where
    inside : every (within (suc (state_count c))) zs ≡ true
    unfolding holds_at_start
    inside = ((and-true (every (within (suc (state_count c))) zs) (holds_in (number_starts c) false zs)).0 starts).0

    -- no step from a state of the invariant breaks the property or leaves the invariant
    no_step : (s : State) (input : ℕ → Bool) → Invariant s
        → (code_value (frame c s input) c.P ≡ true → failing c zs (step c s (frame c s input)) false 0 ≡ true) → ⊥
    no_step s input i fails =
        refuted (a s (frame c s input))
        (clauses-hold (a s (frame c s input)) (step_formula c zs requests)
        ∙ formula-holds s (frame c s input) input (record { accepted = accepted; is-frame = frame_is accepted s input; fails = fails }) inside ∙ i)

    kept-or : (s : State) (input : ℕ → Bool) → Invariant s → Invariant (step c s (frame c s input))
    unfolding failing
    kept-or s input i = go (either (holds_in (number_true (state_value c (step c s (frame c s input)))) false zs))
      where
        after : State
        after = step c s (frame c s input)

        go : (holds_in (number_true (state_value c after)) false zs ≡ true) ⊎ (holds_in (number_true (state_value c after)) false zs ≡ false)
            → holds_in (number_true (state_value c after)) false zs ≡ true
        go (inl e) = e
        go (inr e) = absurd (no_step s input i (λ p. ap not e))

    property-or : (s : State) (input : ℕ → Bool) → Invariant s → code_value (frame c s input) c.P ≡ true
    property-or s input i = go (either (code_value (frame c s input) c.P))
      where
        go : (code_value (frame c s input) c.P ≡ true) ⊎ (code_value (frame c s input) c.P ≡ false) → code_value (frame c s input) c.P ≡ true
        go (inl e) = e
        go (inr e) = absurd (no_step s input i (λ p. absurd (true≢false (sym p ∙ e))))

    pub invariant→forever : SafeForever c
    invariant→forever =
        inductive→forever c Invariant
        (record {
          at-start = λ s b. holds-at-start c s b zs starts;
          property = λ s i input. property-or s input i;
          kept = λ s i input. kept-or s input i;
        })
