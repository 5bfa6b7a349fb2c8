-- How a text is read line by line. Cited by the functions that do so, and by no public contract.
use Rattle.std.specs.Prelude.{ℕ, suc, ◌+◌, ◌-◌, ◌≤◌, ◌<◌, ◌≡◌, true, false, cond, List, [], ◌∷◌, ◌++◌, eqb, ltb, length, take, drop, replicate}
use Rattle.text_words.specs.Words.{lines_of}
use Rattle.aiger_lines.specs.Parts.{numbers_on_line, counts_in, lines_due, malformed_at}
use Rattle.aiger_lines.specs.declared.Counts.{Counts}
use Rattle.aiger_lines.specs.declared.Numbers.{Numbers}

-- how many bytes stand before the first byte b, all of them where there is none
unfoldable pub span_to : ℕ → List ℕ → ℕ
span_to b [] = 0
span_to b (x ∷ s) = cond (eqb x b) 0 (suc (span_to b s))

-- up to five numbers in an array, 0 behind the last; more are none
unfoldable pub first_five : List ℕ → Numbers
first_five xs =
    cond (ltb 5 (length xs))
    (record { count = 0; values = replicate 5 0 })
    (record { count = length xs; values = xs ++ replicate (5 - length xs) 0 })

-- the numbers in such an array
unfoldable pub numbers_held : Numbers → List ℕ
numbers_held xs = take xs.count xs.values

-- an array of five, of which `count` are numbers
pub record HoldsNumbers (xs : Numbers) : Type 0 where
  pub most : xs.count ≤ 5
  pub length-is : length xs.values ≡ 5

-- what follows the first p lines begins at byte `at`
pub record Behind (s : List ℕ) (p at : ℕ) : Type 0 where
  pub within : at ≤ length s
  pub rest : drop p (lines_of s) ≡ lines_of (drop at s)

-- line p + 1 was read
pub record NumbersRead (s : List ℕ) (p : ℕ) (numbers : Numbers) (next : ℕ) : Type 0 where
  pub numbers-are : numbers ≡ first_five (numbers_on_line s (p + 1))
  pub behind : Behind s (p + 1) next

-- so was line 1
pub record HeaderRead (s : List ℕ) (counts : Counts) (next : ℕ) : Type 0 where
  pub counts-are : counts ≡ counts_in s
  pub behind : Behind s 1 next

-- lines 1 to r are well-formed, and the next is not or is not due
pub record SoundTo (s : List ℕ) (r : ℕ) : Type 0 where
  pub within : r ≤ lines_due (counts_in s)
  pub sound : (p : ℕ) → 1 ≤ p → p ≤ r → malformed_at s p ≡ false
  pub ends : r < lines_due (counts_in s) → malformed_at s (r + 1) ≡ true
