-- The words of a line read one by one into the array of five numbers: what holds before each word, and what follows from how the word
-- is read. No contract cites this file.
use Prim.Native.Nat.{ℕ, ◌+◌, ◌-◌, ◌≤◌, ◌<◌}
use mathlib.Core.Path.{◌≡◌, refl, sym, ap, ◌∙◌}
use mathlib.Core.List.{List, [], ◌∷◌, ◌++◌}
use mathlib.Core.Logic.{by_cases}
use native.Mathlib.Decide.{dec_lt}
use native.Mathlib.Omega.{arith}
use lib.ListN.{length, take, drop, set, replicate, length-set}
use lib.Seq.{length-take-le}
use Rattle.std.specs.Prelude.{Some, None}
use Rattle.decimal.specs.Digits.{space}
use Rattle.decimal.specs.TextValue.{number_in}
use Rattle.text_words.specs.Words.{words_of}
use Rattle.aiger_lines.specs.Numbers.{word_numbers}
use Rattle.aiger_lines.specs.Steps.{span_to, first_five}
use Rattle.aiger_lines.proofs.Steps.{words-next, words-over}
use Rattle.aiger_lines.proofs.FirstFive.{gathered, gathered-all, gathered-end, gathered_next, gathered-other, gathered-many, fill-zeros, fill-taken, filled}

-- the first `count` values are the numbers of the words before byte `at`, where the next word begins
pub record Reading (line values : List ℕ) (count at : ℕ) : Type 0 where
  pub within : at ≤ length line
  pub most : count ≤ 5
  pub five : length values ≡ 5
  pub zeros : drop count values ≡ replicate (5 - count) 0
  pub numbers : gathered (take count values) (words_of (drop at line)) ≡ word_numbers (words_of line)

pub starts : (line : List ℕ) → Reading line (replicate 5 0) 0 0
starts line = record { within = omega arith; most = omega arith; five = refl; zeros = refl; numbers = gathered-all (words_of line) }

-- the word that begins at `at` ends before byte `end`
module _ (line values : List ℕ) (count at end : ℕ) (reading : Reading line values count at) (found : end ≡ at + span_to space (drop at line)) where
  abbrev word : List ℕ
  word = take (end - at) (drop at line)

  abbrev before : List ℕ
  before = take count values

  -- and perhaps others follow
  some_words : (ws : List (List ℕ)) × (words_of (drop at line) ≡ word ∷ ws)
  some_words =
      by_cases (dec_lt end (length line))
      (λ l. (words_of (drop (end + 1) line), words-next line at end reading.within found l))
      (λ l. ([], words-over line at end reading.within found (omega arith)))

  -- it is no number
  pub stops : number_in word ≡ None → first_five [] ≡ first_five (word_numbers (words_of line))
  stops e =
      ap first_five
      (sym (gathered-other before word some_words.0 e) ∙ ap (gathered before) (sym some_words.1) ∙ reading.numbers)

  -- it is a sixth
  pub too_many : 5 ≤ count → first_five [] ≡ first_five (word_numbers (words_of line))
  too_many l =
      let n : length before ≡ count = length-take-le count values (omega arith) in
      sym (gathered-many before word some_words.0 (omega arith))
      ∙ ap first_five (ap (gathered before) (sym some_words.1) ∙ reading.numbers)

  module _ (x : ℕ) (e : number_in word ≡ Some x) (room : count < 5) where
    -- it is the last
    pub ends : length line ≤ end → record { count = count + 1; values = set values count x } ≡ first_five (word_numbers (words_of line))
    ends l =
        sym
        (filled (count + 1) (set values count x) (length-set values count x ∙ reading.five) (omega arith)
        (fill-zeros count values reading.five x room reading.zeros))
        ∙ ap first_five
        (fill-taken count values reading.five x room ∙ sym (gathered-end (before ++ x ∷ []))
        ∙ sym (gathered_next before word [] x e) ∙ ap (gathered before) (sym (words-over line at end reading.within found l))
        ∙ reading.numbers)

    -- it is not
    pub goes_on : end < length line → Reading line (set values count x) (count + 1) (end + 1)
    goes_on l = record {
      within = omega arith;
      most = omega arith;
      five = length-set values count x ∙ reading.five;
      zeros = fill-zeros count values reading.five x room reading.zeros;
      numbers =
          ap (λ (xs : List ℕ). gathered xs (words_of (drop (end + 1) line))) (fill-taken count values reading.five x room)
          ∙ sym (gathered_next before word (words_of (drop (end + 1) line)) x e)
          ∙ ap (gathered before) (sym (words-next line at end reading.within found l))
          ∙ reading.numbers;
    }
