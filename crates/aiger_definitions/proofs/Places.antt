-- What the first fault of each kind says of the lines before it (specs/Definitions.antt): cited by the import, whose tests are of one
-- place after the other. No contract cites this file.
use Prim.Native.Nat.{ℕ, zero, suc, ◌+◌, ◌/◌, ◌≤◌, ◌<◌}
use mathlib.Core.Path.{◌≡◌, refl, sym, ap, ◌∙◌}
use mathlib.Core.Bool.{false, not, ◌||◌}
use mathlib.Core.Logic.{inl, inr, by_cases}
use mathlib.Core.List.{List}
use native.Mathlib.Decide.{dec_lt}
use native.Mathlib.Numerals.{add-one}
use native.Mathlib.Omega.{arith}
use lib.Dec.{eqb}
use borrow.Author.Tests.{ne_eqb, lt-ltb, not-false}
use Rattle.model.specs.Search.{any_below, seen, IsFirst}
use Rattle.model.proofs.Booleans.{or-true, neither-true}
use Rattle.model.proofs.Search.{seen_at, unseen-first}
use Rattle.aiger_lines.specs.Parts.{counts_in, lines_due, part_at, malformed_at}
use Rattle.aiger_lines.specs.Steps.{SoundTo}
use Rattle.aiger_lines.specs.declared.Part.TheVariants.{Latch, Output, Gate}
use Rattle.aiger_definitions.specs.Definitions.{number_at, defined_at, defines_again, is_undefined, never_defined, undefined_at}

-- RULES T11: the first line that is not well-formed or defines a variable again
pub first-not-aiger : (s : List ℕ) {sound r : ℕ} → SoundTo s sound → IsFirst (λ x. defines_again s (suc x)) sound r
    → IsFirst (λ x. malformed_at s (suc x) || defines_again s (suc x)) (lines_due (counts_in s)) r
first-not-aiger s {sound} {r} to first =
    record {
      within = omega (arith, first.within, to.within);
      none_before = λ q l.
          (neither-true (malformed_at s (suc q)) (defines_again s (suc q))).1
          (to.sound (suc q) (omega arith) (omega (arith, first.within)), first.none_before q l);
      holds-there = λ l.
          (or-true (malformed_at s (suc r)) (defines_again s (suc r))).1
          (by_cases (dec_lt r sound)
          (λ k. inr (first.holds-there k))
          (λ k.
          let end : r ≡ sound = omega (arith, first.within) in
          inl (ap (λ p. malformed_at s (suc p)) end ∙ sym (ap (malformed_at s) (add-one sound)) ∙ to.ends (omega arith))));
    }

-- where no line defines a variable again, the line that defines it is the first that does
pub defined-first : (s : List ℕ) (n p v : ℕ) → ((q : ℕ) → 1 ≤ q → q ≤ n → defines_again s q ≡ false) → p ≤ n → 1 ≤ v → defined_at s p ≡ v
    → IsFirst (λ x. eqb (defined_at s x) v) (n + 1) p
unfolding seen any_below defines_again
defined-first s n p v once l some e = unseen-first (defined_at s) (n + 1) v p (omega arith) e (unseen p e (λ k. once p k l))
  where
    unseen : (p : ℕ) → defined_at s p ≡ v → (1 ≤ p → defines_again s p ≡ false) → seen (defined_at s) p v ≡ false
    unseen zero e h = refl
    unseen (suc q) e h = rw (e, ne_eqb v 0 (λ z. omega arith)) at (h (omega arith))

-- a literal above 1 that is not undefined has its variable on an earlier line
pub defined-before : (s : List ℕ) (p y : ℕ) → is_undefined s p y ≡ false → 2 ≤ y → (q : ℕ) × (q < p) × (defined_at s q ≡ y / 2)
unfolding is_undefined
defined-before s p y h l =
    let unseen : not (seen (defined_at s) p (y / 2)) ≡ false = rw (lt-ltb 1 y l) at h in
    (seen_at (defined_at s) p (y / 2)).0 (not-false (seen (defined_at s) p (y / 2)) unseen)

-- the literals of a line without a fault
module _ (s : List ℕ) (p : ℕ) (h : undefined_at s p ≡ false) where
  pub latch-defined : part_at (counts_in s) p ≡ Latch → never_defined s (number_at s p 1) ≡ false
  unfolding undefined_at
  latch-defined e = rw e at h

  pub output-defined : part_at (counts_in s) p ≡ Output → never_defined s (number_at s p 0) ≡ false
  unfolding undefined_at
  output-defined e = rw e at h

  pub gate-defined : part_at (counts_in s) p ≡ Gate → (is_undefined s p (number_at s p 1) ≡ false) × (is_undefined s p (number_at s p 2) ≡ false)
  unfolding undefined_at
  gate-defined e = (neither-true (is_undefined s p (number_at s p 1)) (is_undefined s p (number_at s p 2))).0 (rw e at h)
