-- Laws of specs/Parts.antt: the header's word and counts, and what a well-formed line has. No contract cites this file.
use Prim.Native.Nat.{ℕ, ◌+◌, ◌*◌, ◌%◌, ◌≤◌, ◌<◌}
use mathlib.Core.Path.{◌≡◌, sym, ap, ◌∙◌}
use mathlib.Core.Bool.{true, false, not, ◌&&◌, ◌||◌}
use mathlib.Core.List.{List, []}
use mathlib.Core.Logic.{by_cases}
use native.Mathlib.Decide.{dec_lt}
use native.Mathlib.Numerals.{add-one}
use native.Mathlib.Omega.{arith}
use borrow.Author.Tests.{eq-eqb, ne_eqb, eqb-true, eqb-false, ltb-false, le-ltb, lt-ltb, not-false}
use lib.Dec.{eqb, ltb}
use lib.ListN.{length, get_or, drop, drop_of_length-le}
use lib.Seq.{drop-cons, take_all}
use Rattle.model.proofs.Booleans.{neither-true}
use Rattle.aiger_lines.specs.Parts.{counts_from, counts_of, width, defines, any_above, not_definable, malformed_line}
use Rattle.aiger_lines.specs.Steps.{first_five, numbers_held, HoldsNumbers}
use Rattle.aiger_lines.specs.declared.Counts.{Counts}
use Rattle.aiger_lines.specs.declared.Numbers.{Numbers}
use Rattle.aiger_lines.specs.declared.Part.{Part}
use Rattle.aiger_lines.specs.declared.Part.TheVariants.{Header, Input, Latch, Output, Gate}
use Rattle.aiger_lines.proofs.FirstFive.{five-many, five-in, in-length}

-- five numbers are the header's counts
pub counts-five : (xs : Numbers) → HoldsNumbers xs → xs.count ≡ 5 → counts_of (numbers_held xs) ≡ counts_from xs.values
unfolding counts_of numbers_held
counts-five xs h e =
    rw (e, take_all 5 xs.values (omega arith), eq-eqb (length xs.values) 5 h.length-is)

pub counts-other : (xs : Numbers) → HoldsNumbers xs → (xs.count ≡ 5 → ⊥) → counts_of (numbers_held xs) ≡ counts_from []
unfolding counts_of
counts-other xs h n = rw (ne_eqb (length (numbers_held xs)) 5 (λ e. n (sym (in-length xs h) ∙ e)))

-- more than five are none
pub counts-first-five : (xs : List ℕ) → counts_of (numbers_held (first_five xs)) ≡ counts_of xs
unfolding counts_of
counts-first-five xs = by_cases (dec_lt 5 (length xs)) more (λ n. ap counts_of (five-in xs (omega arith)))
  where
    more : 5 < length xs → counts_of (numbers_held (first_five xs)) ≡ counts_of xs
    more l =
        ap (λ (n : Numbers). counts_of (numbers_held n)) (five-many xs l) ∙ ap counts_of (five-in [] (omega arith))
        ∙ rw (ne_eqb (length xs) 5 (λ e. omega arith))

-- a number above a limit is here, or is still to be found, or there is none
module _ (limit : ℕ) (xs : List ℕ) (i : ℕ) where
  pub above-here : i < length xs → limit < get_or xs i 0 → any_above limit (drop i xs) ≡ true
  unfolding any_above
  above-here l h = rw (drop-cons xs i 0 l, lt-ltb limit (get_or xs i 0) h)

  pub above-later : i < length xs → get_or xs i 0 ≤ limit → any_above limit (drop i xs) ≡ any_above limit (drop (i + 1) xs)
  unfolding any_above
  above-later l h = rw (add-one, drop-cons xs i 0 l, le-ltb limit (get_or xs i 0) h)

  pub above-none : length xs ≤ i → any_above limit (drop i xs) ≡ false
  unfolding any_above
  above-none l = rw (drop_of_length-le xs l)

-- every line has one to five numbers
pub width-bounds : (part : Part) → (0 < width part) × (width part ≤ 5)
width-bounds Header = (omega arith, omega arith)
width-bounds Input = (omega arith, omega arith)
width-bounds Latch = (omega arith, omega arith)
width-bounds Output = (omega arith, omega arith)
width-bounds Gate = (omega arith, omega arith)

-- another count of numbers is malformed
pub malformed_line-count : (h : Counts) (part : Part) (xs : List ℕ) → (length xs ≡ width part → ⊥) → malformed_line h part xs ≡ true
unfolding malformed_line
malformed_line-count h part xs n = rw (ne_eqb (length xs) (width part) n)

-- with the count that is due, the literals decide
module _ (h : Counts) (part : Part) (xs : List ℕ) (count : length xs ≡ width part) where
  pub malformed_line-high : (ltb (width part) 5 && any_above (2 * h.largest + 1) xs) ≡ true → malformed_line h part xs ≡ true
  unfolding malformed_line
  malformed_line-high e = rw (eq-eqb (length xs) (width part) count, e)

  pub malformed_line-defined : (ltb (width part) 5 && any_above (2 * h.largest + 1) xs) ≡ false → malformed_line h part xs ≡ (defines part && not_definable (get_or xs 0 0))
  unfolding malformed_line
  malformed_line-defined e = rw (eq-eqb (length xs) (width part) count, e)

-- more than five numbers are malformed as none are
pub malformed_line-five : (h : Counts) (part : Part) (xs : List ℕ) → malformed_line h part (numbers_held (first_five xs)) ≡ malformed_line h part xs
malformed_line-five h part xs = by_cases (dec_lt 5 (length xs)) more few
  where
    more : 5 < length xs → malformed_line h part (numbers_held (first_five xs)) ≡ malformed_line h part xs
    more l =
        ap (λ (n : Numbers). malformed_line h part (numbers_held n)) (five-many xs l)
        ∙ ap (malformed_line h part) (five-in [] (omega arith))
        ∙ malformed_line-count h part [] (λ e. omega (arith, (width-bounds part).0))
        ∙ sym (malformed_line-count h part xs (λ e. omega (arith, (width-bounds part).1)))

    few : (5 < length xs → ⊥) → malformed_line h part (numbers_held (first_five xs)) ≡ malformed_line h part xs
    few n = ap (malformed_line h part) (five-in xs (omega arith))

-- What a line that is not malformed has: the count that is due, and where it defines a literal, an even one above 1.
module _ (h : Counts) (part : Part) (xs : List ℕ) (well : malformed_line h part xs ≡ false) where
  tests : (not (eqb (length xs) (width part)) ≡ false) × ((defines part && not_definable (get_or xs 0 0)) ≡ false)
  unfolding malformed_line
  tests =
      let a =
      (neither-true (not (eqb (length xs) (width part)) || (ltb (width part) 5 && any_above (2 * h.largest + 1) xs))
      (defines part && not_definable (get_or xs 0 0))).0 well in
      (((neither-true (not (eqb (length xs) (width part))) (ltb (width part) 5 && any_above (2 * h.largest + 1) xs)).0 a.0).0, a.1)

  pub well-count : length xs ≡ width part
  well-count = eqb-true (length xs) (width part) (not-false _ tests.0)

  pub well-few : length xs ≤ 5
  well-few = omega (arith, well-count, (width-bounds part).1)

  pub well-defined : defines part ≡ true → (2 ≤ get_or xs 0 0) × (get_or xs 0 0 % 2 ≡ 0)
  well-defined d =
      let both = (neither-true (ltb (get_or xs 0 0) 2) (eqb (get_or xs 0 0 % 2) 1)).0 (rw d at tests.1) in
      let odd : get_or xs 0 0 % 2 ≡ 1 → ⊥ = eqb-false (get_or xs 0 0 % 2) 1 both.1 in
      (ltb-false (get_or xs 0 0) 2 both.0, omega arith)
