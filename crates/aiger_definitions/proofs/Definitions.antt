-- From faults by variable to lines (specs/Definitions.antt): the first line that defines a variable again, and the first with an
-- undefined literal. No contract cites this file.
use Prim.Native.Nat.{ℕ, suc, ◌+◌, ◌/◌, ◌≤◌, ◌<◌}
use mathlib.Core.Path.{◌≡◌, refl, sym, ap, ◌∙◌}
use mathlib.Core.Bool.{Bool, true, false, not, ◌&&◌, ◌||◌, beq, true≢false, or_self, or-false}
use mathlib.Core.Logic.{inl, inr, by_cases, ⊎_elim}
use mathlib.Core.List.{List}
use native.Mathlib.Decide.{dec_lt}
use native.Mathlib.Numerals.{add-one}
use native.Mathlib.Omega.{arith}
use lib.Dec.{eqb, ltb}
use lib.ListN.{get_or}
use borrow.Author.Tests.{eq-eqb, ne_eqb, eqb-true, eqb-false, lt-ltb, le-ltb, not-true}
use Rattle.model.specs.Search.{seen, IsFirst}
use Rattle.model.proofs.Booleans.{and-true, or-true, not-true-false}
use Rattle.aiger_lines.specs.Parts.{numbers_on_line, counts_in, lines_due, part_at}
use Rattle.aiger_lines.specs.declared.Part.{Part}
use Rattle.aiger_lines.specs.declared.Part.TheVariants.{Header, Input, Latch, Output, Gate}
use Rattle.aiger_definitions.specs.Definitions.{defined_at, defines_again, is_undefined, undefined_in, undefined_at}
use Rattle.aiger_definitions.specs.Blocks.{variables_of, variables_at, uses_of, reach, fault_in, fault_of, Judged}
use Rattle.aiger_definitions.specs.declared.Fault.TheVariants.{Repeated, Undefined}
use Rattle.aiger_definitions.specs.declared.Look.{Look}
use Rattle.aiger_definitions.specs.declared.Look.TheVariants.{Repeats, Operands, Others}
use Rattle.aiger_definitions.proofs.LineVariables.{uses-small, defined-is}

-- A property of lines that is a fault in some variable: its first line is the first with a fault
judged-first : {fault : ℕ → ℕ → Bool} (f : ℕ → Bool) {n r : ℕ}
    → ((x v : ℕ) → 1 ≤ v → fault x v ≡ true → f (x + 1) ≡ true)
    → ((x : ℕ) → f (x + 1) ≡ true → (v : ℕ) × (1 ≤ v) × (v < 4294967296) × (fault x v ≡ true))
    → Judged fault n 1 n r 4294967296 → IsFirst (λ x. f (suc x)) n r
judged-first {fault} f {n} {r} is has j =
    record {
      within = j.within;
      none_before = λ q l.
          not-true-false (f (suc q))
          (λ e.
          let t = has q (ap f (add-one q) ∙ e) in
          true≢false (sym t.3 ∙ j.none q t.0 (omega (arith, j.within)) l t.1 t.2));
      holds-there = λ l. let t = j.there l in sym (ap f (add-one r)) ∙ is r t.0 t.2 t.3;
    }

-- a line that looks at the variables a and b: one of them is not 0 and has a property
abbrev hits : (ℕ → Bool) → ℕ → Bool
hits t a = not (eqb a 0) && t a

abbrev uses : (ℕ → Bool) → ℕ → ℕ → ℕ → Bool
uses t a b v = (eqb a v || eqb b v) && t v

module _ (t : ℕ → Bool) (a b : ℕ) where
  hits_at : (c v : ℕ) → c ≡ v → 1 ≤ v → t v ≡ true → hits t c ≡ true
  hits_at c v e l h = rw (e, ne_eqb v 0 (λ z. omega arith)) h

  uses-hits : (v : ℕ) → 1 ≤ v → uses t a b v ≡ true → (hits t a || hits t b) ≡ true
  uses-hits v l h =
      let parts = (and-true (eqb a v || eqb b v) (t v)).0 h in
      (or-true (hits t a) (hits t b)).1
      (⊎_elim
      (λ (e : eqb a v ≡ true). inl (hits_at a v (eqb-true a v e) l parts.1))
      (λ (e : eqb b v ≡ true). inr (hits_at b v (eqb-true b v e) l parts.1))
      ((or-true (eqb a v) (eqb b v)).0 parts.0))

  hit-some : (c : ℕ) → hits t c ≡ true → (1 ≤ c) × (t c ≡ true)
  hit-some c h =
      let parts = (and-true (not (eqb c 0)) (t c)).0 h in
      let some : c ≡ 0 → ⊥ = eqb-false c 0 (not-true (eqb c 0) parts.0) in
      (omega arith, parts.1)

  hits-uses : a < 4294967296 → b < 4294967296 → (hits t a || hits t b) ≡ true
      → (v : ℕ) × (1 ≤ v) × (v < 4294967296) × (uses t a b v ≡ true)
  hits-uses l k h =
      ⊎_elim
      (λ (e : hits t a ≡ true).
      let got = hit-some a e in
      (a, got.0, l, rw (eq-eqb a a refl) got.1))
      (λ (e : hits t b ≡ true).
      let got = hit-some b e in
      (b, got.0, k, (and-true (eqb a b || eqb b b) (t b)).1 ((or-true (eqb a b) (eqb b b)).1 (inr (eq-eqb b b refl)), got.1)))
      ((or-true (hits t a) (hits t b)).0 h)

-- what each pass looks for
abbrev test : Look → List ℕ → ℕ → ℕ → ℕ → Bool
test look s lines x v = beq (seen (defined_at s) (reach look lines x) v) (uses_of look (variables_at s (x + 1))).marked

abbrev hits_of : Look → List ℕ → ℕ → ℕ → Bool
hits_of look s lines x =
    hits (test look s lines x) (uses_of look (variables_at s (x + 1))).first || hits (test look s lines x) (uses_of look (variables_at s (x + 1))).second

fault-hits : (look : Look) (s : List ℕ) (lines x v : ℕ) → 1 ≤ v → fault_in look s lines x v ≡ true → hits_of look s lines x ≡ true
unfolding fault_in
fault-hits look s lines x v l h =
    uses-hits (test look s lines x) (uses_of look (variables_at s (x + 1))).first (uses_of look (variables_at s (x + 1))).second v l h

hits-fault : (look : Look) (s : List ℕ) (lines x : ℕ) → hits_of look s lines x ≡ true
    → (v : ℕ) × (1 ≤ v) × (v < 4294967296) × (fault_in look s lines x v ≡ true)
unfolding fault_in
hits-fault look s lines x h =
    let small = uses-small look s (x + 1) in
    hits-uses (test look s lines x) (uses_of look (variables_at s (x + 1))).first (uses_of look (variables_at s (x + 1))).second small.0 small.1 h

-- a line defines again where the pass for repeats finds it
same_true : (b : Bool) → beq b true ≡ b
same_true true = refl
same_true false = refl

same_false : (b : Bool) → beq b false ≡ not b
same_false true = refl
same_false false = refl

again-hits : (s : List ℕ) (lines x : ℕ) → hits_of Repeats s lines x ≡ defines_again s (x + 1)
unfolding defines_again
again-hits s lines x =
    rw (defined-is s (x + 1), same_true (seen (defined_at s) (x + 1) (defined_at s (x + 1))))
    (or_self (not (eqb (defined_at s (x + 1)) 0) && seen (defined_at s) (x + 1) (defined_at s (x + 1))))

-- and has an undefined literal where one of the other passes does
above-one : (y : ℕ) → ltb 1 y ≡ not (eqb (y / 2) 0)
above-one y =
    by_cases (dec_lt 1 y)
    (λ l. rw (lt-ltb 1 y l, ne_eqb (y / 2) 0 (λ e. omega arith)))
    (λ l. rw (le-ltb 1 y (omega arith), eq-eqb (y / 2) 0 (omega arith)))

abbrev due : List ℕ → ℕ
due s = lines_due (counts_in s)

module _ (s : List ℕ) (x : ℕ) where
  undefined-hits : (look : Look) (y : ℕ) → (uses_of look (variables_at s (x + 1))).marked ≡ false
      → hits (test look s (due s) x) (y / 2) ≡ is_undefined s (reach look (due s) x) y
  unfolding is_undefined
  undefined-hits look y e = rw (e, above-one y, same_false (seen (defined_at s) (reach look (due s) x) (y / 2)))

  undefined-either : (hits_of Operands s (due s) x || hits_of Others s (due s) x) ≡ undefined_at s (x + 1)
  unfolding undefined_at variables_at
  undefined-either = by (part_at (counts_in s) (x + 1))
    where
      xs : List ℕ
      xs = numbers_on_line s (x + 1)

      before : ℕ → Bool
      before v = beq (seen (defined_at s) (x + 1) v) false

      ever : ℕ → Bool
      ever v = beq (seen (defined_at s) (lines_due (counts_in s) + 1) v) false

      by : (part : Part) → (
          hits before (variables_of part xs).left || hits before (variables_of part xs).right
          || (hits ever (variables_of part xs).other || hits ever (variables_of part xs).other)) ≡ undefined_in s (x + 1) part
      by Header = refl
      by Input = refl
      by Latch = or_self (hits ever (get_or xs 1 0 / 2)) ∙ undefined-hits Others (get_or xs 1 0) refl
      by Output = or_self (hits ever (get_or xs 0 0 / 2)) ∙ undefined-hits Others (get_or xs 0 0) refl
      by Gate = rw (or-false (hits before (get_or xs 1 0 / 2) || hits before (get_or xs 2 0 / 2)), undefined-hits Operands (get_or xs 1 0) refl, undefined-hits Operands (get_or xs 2 0) refl)

-- so the first fault is the first line of each kind
pub again-first : (s : List ℕ) (n r : ℕ) → Judged (fault_of Repeated s n) n 1 n r 4294967296 → IsFirst (λ x. defines_again s (suc x)) n r
again-first s n r =
    judged-first (defines_again s)
    (λ x v l h. sym (again-hits s n x) ∙ fault-hits Repeats s n x v l h)
    (λ x h. hits-fault Repeats s n x (again-hits s n x ∙ h))

pub undefined-first : (s : List ℕ) (r : ℕ) → Judged (fault_of Undefined s (due s)) (due s) 1 (due s) r 4294967296
    → IsFirst (λ x. undefined_at s (suc x)) (due s) r
undefined-first s r = judged-first (undefined_at s) is has
  where
    is : (x v : ℕ) → 1 ≤ v → (fault_in Operands s (due s) x v || fault_in Others s (due s) x v) ≡ true → undefined_at s (x + 1) ≡ true
    is x v l h =
        sym (undefined-either s x)
        ∙ (or-true (hits_of Operands s (due s) x) (hits_of Others s (due s) x)).1
        (⊎_elim
        (λ (e : fault_in Operands s (due s) x v ≡ true). inl (fault-hits Operands s (due s) x v l e))
        (λ (e : fault_in Others s (due s) x v ≡ true). inr (fault-hits Others s (due s) x v l e))
        ((or-true (fault_in Operands s (due s) x v) (fault_in Others s (due s) x v)).0 h))

    has : (x : ℕ) → undefined_at s (x + 1) ≡ true
        → (v : ℕ) × (1 ≤ v) × (v < 4294967296) × ((fault_in Operands s (due s) x v || fault_in Others s (due s) x v) ≡ true)
    has x h =
        ⊎_elim
        (λ (e : hits_of Operands s (due s) x ≡ true).
        let t = hits-fault Operands s (due s) x e in
        (t.0, t.1, t.2, (or-true _ (fault_in Others s (due s) x t.0)).1 (inl t.3)))
        (λ (e : hits_of Others s (due s) x ≡ true).
        let t = hits-fault Others s (due s) x e in
        (t.0, t.1, t.2, (or-true (fault_in Operands s (due s) x t.0) _).1 (inr t.3)))
        ((or-true (hits_of Operands s (due s) x) (hits_of Others s (due s) x)).0 (undefined-either s x ∙ h))
