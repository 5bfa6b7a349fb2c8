-- How many lines the first bytes of a text have. No contract cites this file.
use Prim.Native.Nat.{ℕ, suc, ◌+◌, ◌<◌}
use mathlib.Core.Path.{◌≡◌, refl, ◌∙◌, ap}
use mathlib.Core.Bool.{Bool, true, false, cond}
use mathlib.Core.List.{List, [], ◌∷◌}
use lib.Dec.{eqb}
use lib.ListN.{length, get_or, take, length-append}
use lib.Seq.{take-suc}
use Rattle.decimal.specs.Digits.{line_feed}
use Rattle.text_words.specs.Words.{parts_after, rest_after, lines_of}
use Rattle.text_words.proofs.Words.{parts-append}

-- what a byte ends is one line or none, whatever stands before it
one_byte : (begun : List ℕ) (x : ℕ) → length (parts_after line_feed begun (x ∷ [])) ≡ length (lines_of (x ∷ []))
unfolding parts_after
one_byte begun x = by_byte (eqb x line_feed)
  where
    by_byte : (b : Bool) → length (cond {A = List (List ℕ)} b (begun ∷ []) []) ≡ length (cond {A = List (List ℕ)} b ([] ∷ []) [])
    by_byte true = refl
    by_byte false = refl

-- one byte more
pub lines_next : (s : List ℕ) (i : ℕ) → i < length s
    → length (lines_of (take (suc i) s)) ≡ length (lines_of (take i s)) + length (lines_of (get_or s i 0 ∷ []))
lines_next s i h =
    let x = get_or s i 0 in
    ap (λ (t : List ℕ). length (lines_of t)) (take-suc s i 0 h)
    ∙ ap (λ (ls : List (List ℕ)). length ls) (parts-append line_feed [] (take i s) (x ∷ []))
    ∙ length-append (lines_of (take i s)) (parts_after line_feed (rest_after line_feed [] (take i s)) (x ∷ []))
    ∙ ap (λ (k : ℕ). length (lines_of (take i s)) + k) (one_byte (rest_after line_feed [] (take i s)) x)
