-- Laws of specs/Numbers.antt and of the array of five numbers in specs/Steps.antt. No contract cites this file.
use Prim.Native.Nat.{ℕ, zero, suc, ◌+◌, ◌-◌, ◌≤◌, ◌<◌}
use mathlib.Core.Path.{◌≡◌, refl, sym, ap, ◌∙◌}
use mathlib.Core.Bool.{Bool, true, false, cond}
use mathlib.Core.List.{List, [], ◌∷◌, ◌++◌, append_assoc, append-nil}
use mathlib.Core.Logic.{by_cases}
use native.Mathlib.Decide.{dec_lt}
use native.Mathlib.Numerals.{add-one}
use native.Mathlib.Omega.{arith}
use borrow.Author.Tests.{lt-ltb, le-ltb}
use lib.ListN.{length, get_or, take, drop, set, replicate, length-append, length-replicate, take-append-drop}
use lib.Seq.{get_or-take, length-take-le, take-suc-set, drop-set-lt, drop-drop, take_at}
use Rattle.std.specs.Prelude.{Some, None}
use Rattle.decimal.specs.TextValue.{number_in}
use Rattle.aiger_lines.specs.Numbers.{all_unsigned, unsigned_values, word_numbers}
use Rattle.aiger_lines.specs.Steps.{first_five, numbers_held, HoldsNumbers}
use Rattle.aiger_lines.specs.declared.Numbers.{Numbers}

-- the numbers xs, and behind them those that words are; none where one of the words is no number
unfoldable pub gathered : List ℕ → List (List ℕ) → List ℕ
gathered xs ws = cond (all_unsigned ws) (xs ++ unsigned_values ws) []

pub gathered-all : (ws : List (List ℕ)) → gathered [] ws ≡ word_numbers ws
unfolding gathered word_numbers
gathered-all ws = refl

pub gathered-end : (xs : List ℕ) → gathered xs [] ≡ xs
unfolding gathered all_unsigned unsigned_values
gathered-end xs = append-nil xs

-- one word more
module _ (xs : List ℕ) (w : List ℕ) (ws : List (List ℕ)) where
  pub gathered_next : (x : ℕ) → number_in w ≡ Some x → gathered xs (w ∷ ws) ≡ gathered (xs ++ x ∷ []) ws
  unfolding gathered all_unsigned unsigned_values
  gathered_next x e = rw (e, append_assoc)

  pub gathered-other : number_in w ≡ None → gathered xs (w ∷ ws) ≡ []
  unfolding gathered all_unsigned
  gathered-other e = rw e

-- up to five numbers; more are none
five-few : (xs : List ℕ) → length xs ≤ 5 → first_five xs ≡ record { count = length xs; values = xs ++ replicate (5 - length xs) 0 }
unfolding first_five
five-few xs l = rw (le-ltb 5 (length xs) l)

pub five-many : (xs : List ℕ) → 5 < length xs → first_five xs ≡ first_five []
unfolding first_five
five-many xs l = rw (lt-ltb 5 (length xs) l)

-- a sixth word: none, be it a number or not
pub gathered-many : (xs : List ℕ) (w : List ℕ) (ws : List (List ℕ)) → 5 ≤ length xs → first_five (gathered xs (w ∷ ws)) ≡ first_five []
unfolding gathered unsigned_values
gathered-many xs w ws l = by-test (all_unsigned (w ∷ ws))
  where
    by-test : (b : Bool) → first_five (cond b (xs ++ unsigned_values (w ∷ ws)) []) ≡ first_five []
    by-test true = five-many (xs ++ unsigned_values (w ∷ ws)) (rw length-append (omega arith))
    by-test false = refl

-- The array as it is filled: behind the first `count` values there are zeros.
module _ (count : ℕ) (vs : List ℕ) (five : length vs ≡ 5) where
  pub fill-zeros : (x : ℕ) → count < 5 → drop count vs ≡ replicate (5 - count) 0 → drop (count + 1) (set vs count x) ≡ replicate (5 - (count + 1)) 0
  fill-zeros x l z =
      let more : 5 - count ≡ suc (5 - (count + 1)) = omega arith in
      drop-set-lt (count + 1) vs count x (omega arith) ∙ sym (drop-drop 1 count vs) ∙ ap (drop 1) (z ∙ ap (λ (n : ℕ). replicate n 0) more)

  pub fill-taken : (x : ℕ) → count < 5 → take (count + 1) (set vs count x) ≡ take count vs ++ x ∷ []
  fill-taken x l = rw add-one (take-suc-set vs count x (omega arith))

  pub filled : count ≤ 5 → drop count vs ≡ replicate (5 - count) 0 → first_five (take count vs) ≡ record { count = count; values = vs }
  filled l z =
      let n : length (take count vs) ≡ count = length-take-le count vs (omega arith) in
      five-few (take count vs) (omega arith) ∙ rw n
      (ap (λ (t : List ℕ). record { count = count; values = t }) (ap (λ (t : List ℕ). take count vs ++ t) (sym z) ∙ take-append-drop count vs))

-- what the array holds
pub five-holds : (xs : List ℕ) → HoldsNumbers (first_five xs)
five-holds xs =
    by_cases (dec_lt 5 (length xs))
    (λ l. rw (five-many xs l, five-few [] (omega arith)) (record { most = omega arith; length-is = refl }))
    (λ l. rw (five-few xs (omega arith))
    (record { most = omega arith; length-is = rw (length-append, length-replicate) (omega arith) }))

pub five-in : (xs : List ℕ) → length xs ≤ 5 → numbers_held (first_five xs) ≡ xs
unfolding numbers_held
five-in xs l = rw (five-few xs l) (take_at xs (replicate (5 - length xs) 0) (length xs) refl)

-- the numbers in an array
pub in-length : (xs : Numbers) → HoldsNumbers xs → length (numbers_held xs) ≡ xs.count
unfolding numbers_held
in-length xs h = length-take-le xs.count xs.values (omega arith)

pub in-at : (xs : Numbers) (i : ℕ) → i < xs.count → get_or (numbers_held xs) i 0 ≡ get_or xs.values i 0
unfolding numbers_held
in-at xs i l = get_or-take xs.count xs.values i 0 l

zeros : (n i : ℕ) → ◌≡◌ {A = ℕ} (get_or (replicate n 0) i 0) 0
zeros zero i = refl
zeros (suc n) zero = refl
zeros (suc n) (suc i) = zeros n i

padded : (xs : List ℕ) (n i : ℕ) → get_or (xs ++ replicate n 0) i 0 ≡ get_or xs i 0
padded [] n i = zeros n i
padded (x ∷ xs) n zero = refl
padded (x ∷ xs) n (suc i) = padded xs n i

pub five-value : (xs : List ℕ) (i : ℕ) → length xs ≤ 5 → get_or (first_five xs).values i 0 ≡ get_or xs i 0
five-value xs i l = rw (five-few xs l) (padded xs (5 - length xs) i)
