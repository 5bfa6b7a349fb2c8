-- Demand 3, proved: every accepted netlist is encoded, at every depth; and what a designer relies on.
use Prim.Native.Nat.{ℕ, zero-le, ◌+◌, ◌≤◌}
use mathlib.Core.Path.{◌≡◌, refl, sym, ◌∙◌, ap}
use mathlib.Core.Bool.{Bool, true, false, ◌||◌, or-false}
use mathlib.Core.List.{List}
use mathlib.Core.Logic.Iff
use mathlib.Core.Logic.{◌↔◌}
use lib.Dec.{eqb}
use Rattle.model.specs.Netlist.{Netlist, start, ports, port}
use Rattle.model.specs.Circuit.{State, code_value, run, Begins}
use Rattle.model.specs.Acceptance.{Accepted}
use Rattle.model.specs.Clauses.{Clause}
use Rattle.model.specs.Variables.{base}
use Rattle.model.specs.Groups.{clauses_of, group_order}
use Rattle.model.specs.Numbers.{kept_of, kept, is_true, has_true, Assignment, formula, clauses_in, number_true, clause_true, all_true}
use Rattle.model.specs.Claim.{Satisfies, feed_of, idle_of, StartsAs, Agrees, Breaks, Safe, Encodes, EncodingTheorem}
use Rattle.model.specs.declared.Group.TheVariants.{Wires}
use Rattle.model.proofs.Booleans.{eq_iff, and-true}
use Rattle.model.proofs.Ports.{unknown-single, bit-within}
use Rattle.model.proofs.Variables.{base-least}
use Rattle.model.proofs.Joined.{joined_clauses, formula-written, each-group}
use Rattle.model.proofs.Bounds.{or_minus_one, formula-within}
use Rattle.model.proofs.Truth.{AllHold, all_hold-splits}
use Rattle.model.proofs.Numbers.{shown, ShownTrue, shown_true-splits, clauses_in-written, shown-true, shown-same}
use Rattle.model.proofs.Groups.{DepthHolds, groups-hold}
use Rattle.model.proofs.StartMemory.{Explains, given-explains, start-explains}
use Rattle.model.proofs.AssignmentToRun.{FedAs, assignment-agrees, assignment-breaks}
use Rattle.model.proofs.Witness.{witness, witness-one}
use Rattle.model.proofs.RunToAssignment.{first-latch, frames-hold, run-violated, run-agrees}

module _ {c : Netlist} (ok : Accepted c) (k : ℕ) where
  -- all clauses of depth k
  abbrev all : List Clause
  all = joined_clauses (clauses_of c k) (group_order (ports c) k)

  -- the clauses in the numbers of depth k are those that are written
  pub clauses_in-formula : clauses_in (formula c k) ≡ shown all
  clauses_in-formula =
      ap clauses_in (formula-written c k)
      ∙ clauses_in-written (base c (k + 1)) all (base-least c (k + 1)) (formula-within ok k)

  first-clause : (a : Assignment) → ShownTrue a (clauses_of c k (Wires 0)) → a 1 ≡ true
  unfolding ShownTrue shown has_true is_true kept kept_of or_minus_one clauses_of all_true clause_true number_true
  first-clause a h = sym (or-false (a 1)) ∙ ((and-true (a 1 || false) _).0 h).0

  -- where variable 1 is true, they are true where each group holds
  satisfies-groups : (a : Assignment) → a 1 ≡ true → Satisfies c k a ↔ DepthHolds c k a
  unfolding Satisfies
  satisfies-groups a one =
      Iff.trans
      (eq_iff (ap (all_true a) clauses_in-formula ∙ shown-true a one (base c (k + 1)) all (formula-within ok k)))
      (Iff.trans (each-group c k (AllHold a) (all_hold-splits a)) (groups-hold c k a))

  -- the first clause makes variable 1 true
  satisfies-one : (a : Assignment) → Satisfies c k a → a 1 ≡ true
  unfolding Satisfies ShownTrue
  satisfies-one a h =
      first-clause a (((each-group c k (ShownTrue a) (shown_true-splits a)).0 (sym (ap (all_true a) clauses_in-formula) ∙ h)).wires 0 zero-le)

  pub depth-holds : (a : Assignment) → Satisfies c k a → DepthHolds c k a
  depth-holds a h = (satisfies-groups a (satisfies-one a h)).0 h

  -- a run that it feeds, from a state with its idle word and a memory that explains its reads
  run_of : (a : Assignment) → DepthHolds c k a → (s : State) → StartsAs c a s → Explains c a k s.memory
      → Agrees c s k a (feed_of c a) × Breaks c s k (feed_of c a)
  run_of a holds s starts explains = (
    assignment-agrees c a k holds.frames s explains ok fed,
    assignment-breaks c a k holds.frames s explains ok fed holds.violated,
  )
    where
      fed : FedAs c k a s (feed_of c a)
      fed =
          record {
            latches-same = λ l b. holds.resets l b ∙ sym (starts.0.at-reset l b);
            idle-same = λ p here r t b. unfold idle_of in sym (starts.1 ((port c p).first_read + t) (bit-within c p here t b));
            inputs-same = λ i d x b. unfold feed_of in refl;
          }

  -- a state of a memory: the latches at their reset, and the assignment's idle word
  unfoldable pub begun : Assignment → (ℕ → ℕ) → State
  begun a memory = record { latch = λ l. eqb (c.reset l) 1; memory = memory; held = idle_of c a }

  pub begun-starts : (a : Assignment) (memory : ℕ → ℕ) → Begins c.n (start c) memory → StartsAs c a (begun a memory)
  unfolding begun
  begun-starts a memory begins = (record { at-reset = λ l b. refl; begins = begins }, λ t b. refl)

  -- demand 3, of this netlist and depth
  encodes-depth : Encodes c k
  unfolding begun
  encodes-depth =
      record {
        assignment→run = λ a h.
            let holds = depth-holds a h in
            let shown = start-explains c a k (start c) (unknown-single ok.limits.sizes) holds.frames.pairs (λ p here i d. (holds.frames.closings p here i d).initial-where-Z) in
            let starts = begun-starts a shown.0 shown.1 in
            let run = run_of a holds (begun a shown.0) starts shown.2 in
            (begun a shown.0, starts, run.0, run.1);
        given→run = λ known a h s starts.
            let holds = depth-holds a h in
            run_of a holds s starts
            (given-explains c a k (start c) known (λ p here i d. (holds.frames.closings p here i d).initial-where-Z) s.memory starts.0.begins);
        run→assignment = λ s starts f h.
            let a = witness c k (run c s f) in
            let holds : DepthHolds c k a
            = record {
              one = witness-one c k (run c s f);
              frames = frames-hold c ok s f k (start c) (unknown-single ok.limits.sizes) starts.begins;
              resets = λ l b. first-latch c ok s f k l b ∙ starts.at-reset l b;
              violated = run-violated c ok s f k h;
            } in
            (a, (satisfies-groups a holds.one).1 holds, run-agrees c ok s f k);
      }

  -- only variables 1 to B(k + 1) matter
  pub satisfies-same : (a a' : Assignment) → ((v : ℕ) → 1 ≤ v → v ≤ base c (k + 1) → a v ≡ a' v) → Satisfies c k a → Satisfies c k a'
  unfolding Satisfies
  satisfies-same a a' same h =
      ap (all_true a') clauses_in-formula
      ∙ sym (shown-same a a' (base c (k + 1)) (base-least c (k + 1)) same all (formula-within ok k))
      ∙ sym (ap (all_true a) clauses_in-formula) ∙ h

-- demand 3
pub encodes : EncodingTheorem
encodes c ok k = encodes-depth ok k

-- What a designer relies on: where no assignment satisfies the clauses of depth k, no run breaks the property up to frame k.
pub unsatisfiable→safe : {c : Netlist} {k : ℕ} → Encodes c k → ((a : Assignment) → Satisfies c k a → ⊥) → Safe c k
unfolding Breaks
unsatisfiable→safe e none s starts f i h =
    holds (code_value (run _ s f i) _) (λ broken. let found = e.run→assignment s starts f (i, h, broken) in none found.0 found.1)
  where
    holds : (b : Bool) → (b ≡ false → ⊥) → b ≡ true
    holds true n = refl
    holds false n = absurd (n refl)
