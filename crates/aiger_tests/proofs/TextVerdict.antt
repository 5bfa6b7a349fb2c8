-- The verdict on a text from the first line that has each fault (aiger_netlist/specs/ImportVerdict). Cited by `test_text`.
use Prim.Native.Nat.{ℕ, zero, suc, ◌+◌, ◌≤◌, ◌<◌}
use mathlib.Core.Path.{◌≡◌, refl, ◌∙◌, ap, ap₂, subst}
use mathlib.Core.Bool.{Bool, true, false}
use mathlib.Core.List.{List}
use native.Mathlib.Numerals.{add-one}
use native.Mathlib.Omega.{arith}
use borrow.Author.Tests.{lt-ltb, le-ltb}
use Rattle.std.specs.Prelude.{Ok, Err}
use Rattle.refusals.specs.Verdict.{Verdict, Passed, refuse}
use Rattle.model.specs.Search.{IsFirst}
use Rattle.refusals.specs.Tests.{refuse_if, ◌then◌, in_order}
use Rattle.refusals.specs.declared.Refusal.{Refusal}
use Rattle.refusals.specs.declared.Refusal.TheVariants.{NotAiger, Interface, Undefined}
use Rattle.refusals.proofs.Tests.{in_order-first}
use Rattle.aiger_lines.specs.Parts.{counts_in, lines_due}
use Rattle.aiger_lines.specs.Steps.{SoundTo}
use Rattle.aiger_definitions.specs.Definitions.{defines_again, undefined_at}
use Rattle.aiger_definitions.proofs.Places.{first-not-aiger}
use Rattle.aiger_netlist.specs.ImportVerdict.{place_of, first_line, not_aiger, wrong_interface, text_verdict}

-- a verdict with its place changed
abbrev placed : (ℕ → ℕ) → Verdict → Verdict
placed place (Ok _) = Passed
placed place (Err e) = refuse e.0 (place e.1)

placed-if : (place : ℕ → ℕ) (b : Bool) (r : Refusal) (p : ℕ) → refuse_if b r (place p) ≡ placed place (refuse_if b r p)
placed-if place true r p = refl
placed-if place false r p = refl

placed-then : (place : ℕ → ℕ) (v w : Verdict) → placed place v then placed place w ≡ placed place (v then w)
unfolding ◌then◌
placed-then place (Ok _) w = refl
placed-then place (Err e) w = refl

-- tests in order with other places refuse at the same place, changed
placed-in_order : (place : ℕ → ℕ) (f : ℕ → Bool) (r : Refusal) (n : ℕ)
    → in_order (λ p. refuse_if (f p) r (place p)) n ≡ placed place (in_order (λ p. refuse_if (f p) r p) n)
unfolding in_order
placed-in_order place f r zero = refl
placed-in_order place f r (suc n) =
    ap₂ ◌then◌ (placed-in_order place f r n) (placed-if place (f (suc n)) r (suc n))
    ∙ placed-then place (in_order (λ p. refuse_if (f p) r p) n) (refuse_if (f (suc n)) r (suc n))

-- the first line due that has a fault, or none
module _ (s : List ℕ) (fault : List ℕ → ℕ → Bool) (r : Refusal) {q : ℕ} (first : IsFirst (λ x. fault s (suc x)) (lines_due (counts_in s)) q) where
  line_refused : q < lines_due (counts_in s) → first_line s fault r ≡ refuse r (place_of (q + 1))
  line_refused b =
      placed-in_order place_of (fault s) r (lines_due (counts_in s))
      ∙ ap (placed place_of) (in_order-first (fault s) r (lines_due (counts_in s)) first)
      ∙ rw (lt-ltb q (lines_due (counts_in s)) b, add-one)

  line-passed : lines_due (counts_in s) ≤ q → first_line s fault r ≡ Passed
  line-passed b =
      placed-in_order place_of (fault s) r (lines_due (counts_in s))
      ∙ ap (placed place_of) (in_order-first (fault s) r (lines_due (counts_in s)) first) ∙ rw (le-ltb q (lines_due (counts_in s)) b)

module _ (s : List ℕ) (m n second : ℕ) {sound q : ℕ} (to : SoundTo s sound) (first : IsFirst (λ x. defines_again s (suc x)) sound q) where
  -- 11
  pub not-aiger : q < lines_due (counts_in s) → text_verdict s m n second ≡ refuse NotAiger (place_of (q + 1))
  unfolding text_verdict ◌then◌
  not-aiger b = rw (line_refused s not_aiger NotAiger (first-not-aiger s to first) b)

  module _ (aiger : lines_due (counts_in s) ≤ q) where
    -- all lines due are well-formed then
    pub all_sound : SoundTo s (lines_due (counts_in s))
    all_sound = subst (SoundTo s) whole to
      where
        whole : sound ≡ lines_due (counts_in s)
        whole = omega (arith, to.within, first.within)

    -- 12
    pub interface : wrong_interface (counts_in s) m n second ≡ true → text_verdict s m n second ≡ refuse Interface 0
    unfolding text_verdict ◌then◌
    interface e = rw (line-passed s not_aiger NotAiger (first-not-aiger s to first) aiger, e)

    -- 13, or nothing is refused
    module _ (fits : wrong_interface (counts_in s) m n second ≡ false) {u : ℕ} (next : IsFirst (λ x. undefined_at s (suc x)) (lines_due (counts_in s)) u) where
      pub undefined : u < lines_due (counts_in s) → text_verdict s m n second ≡ refuse Undefined (place_of (u + 1))
      unfolding text_verdict ◌then◌
      undefined b =
          rw (line-passed s not_aiger NotAiger (first-not-aiger s to first) aiger, fits) (line_refused s undefined_at Undefined next b)

      pub passed : lines_due (counts_in s) ≤ u → text_verdict s m n second ≡ Passed
      unfolding text_verdict ◌then◌
      passed b = rw (line-passed s not_aiger NotAiger (first-not-aiger s to first) aiger, fits) (line-passed s undefined_at Undefined next b)
