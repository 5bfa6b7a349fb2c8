-- Laws of reading line by line (specs/Steps.antt): the line that is read next, and what the lines up to the last sound one give. No
-- contract cites this file.
use Prim.Native.Nat.{ℕ, ◌+◌, ◌-◌, ◌≤◌, ◌<◌}
use mathlib.Core.Path.{◌≡◌, refl, sym, ap, ◌∙◌}
use mathlib.Core.Bool.{Bool, true, false, cond}
use mathlib.Core.List.{List, [], ◌∷◌}
use mathlib.Core.Logic.{by_cases}
use native.Mathlib.Decide.{dec_lt}
use native.Mathlib.Omega.{arith}
use borrow.Author.Tests.{ne_eqb}
use lib.ListN.{length, get_or, take, drop, drop_of_length-le}
use lib.Seq.{drop-drop, get_or-drop}
use Rattle.decimal.specs.Digits.{line_feed, space}
use Rattle.decimal.specs.TextValue.{same_text}
use Rattle.decimal.proofs.TextValue.{number_in-empty}
use Rattle.text_words.specs.Words.{lines_of, words_of, rest_after, parts_after}
use Rattle.aiger_lines.specs.Numbers.{word_numbers, all_unsigned, unsigned_values, words_at}
use Rattle.aiger_lines.specs.Parts.{aag, numbers_behind, numbers_on_line, counts_in, counts_of, part_at, lines_due, malformed_line, malformed_at}
use Rattle.aiger_lines.specs.Steps.{span_to, first_five, numbers_held, HoldsNumbers, Behind, NumbersRead, SoundTo}
use Rattle.aiger_lines.specs.declared.Counts.{Counts}
use Rattle.aiger_lines.specs.declared.Numbers.{Numbers}
use Rattle.aiger_lines.specs.declared.Part.{Part}
use Rattle.aiger_lines.specs.declared.Part.TheVariants.{Header}
use Rattle.aiger_lines.proofs.FirstFive.{five-holds}
use Rattle.aiger_lines.proofs.Parts.{malformed_line-five, counts-first-five}
use Rattle.aiger_lines.proofs.Steps.{found_within, parts_next, parts-over, words-next, words-over}

-- an empty line, which a missing one is like, has no numbers
numbers-empty : word_numbers (words_of []) ≡ []
unfolding word_numbers words_of all_unsigned parts_after rest_after
numbers-empty = rw (number_in-empty [] refl)

header-empty : numbers_behind aag (words_of []) ≡ []
unfolding words_of parts_after rest_after same_text
header-empty = refl

first-behind : (s : List ℕ) (p : ℕ) → get_or (drop p (lines_of s)) 0 [] ≡ get_or (lines_of s) p []
first-behind s p =
    let place : p + 0 ≡ p = omega arith in
    get_or-drop p (lines_of s) 0 [] ∙ ap (λ (i : ℕ). get_or (lines_of s) i []) place

-- there are no lines behind the end
nothing_left : (s : List ℕ) (at : ℕ) → length s ≤ at → lines_of (drop at s) ≡ []
unfolding parts_after
nothing_left s at l = rw (drop_of_length-le s l)

-- The line behind the first p lines is looked for from `at` on: a line feed is found at `end`, or there is none.
module _ (s : List ℕ) (p at end : ℕ) (behind : Behind s p at) (found : end ≡ at + span_to line_feed (drop at s)) where
  line-here : (rest : List (List ℕ)) (line : List ℕ) → parts_after line_feed [] (drop at s) ≡ line ∷ rest →
      (get_or (lines_of s) p [] ≡ line) × (drop (p + 1) (lines_of s) ≡ rest)
  line-here rest line e = (
    sym (first-behind s p)
        ∙ ap (λ (ls : List (List ℕ)). get_or ls 0 []) (behind.rest ∙ e),
    sym (drop-drop 1 p (lines_of s)) ∙ ap (drop 1) (behind.rest ∙ e),
  )

  line-found : end < length s → (get_or (lines_of s) p [] ≡ take (end - at) (drop at s)) × Behind s (p + 1) (end + 1)
  line-found l =
      let parts = parts_next line_feed s at end behind.within found l in
      let here = line-here (parts_after line_feed [] (drop (end + 1) s)) (take (end - at) (drop at s)) parts in
      (here.0, record { within = omega arith; rest = here.1 })

  line-missing : length s ≤ end → (get_or (lines_of s) p [] ≡ []) × Behind s (p + 1) end
  line-missing l =
      let none : drop p (lines_of s) ≡ [] = behind.rest ∙ parts-over line_feed s at end behind.within found l in
      let last : end ≡ length s = omega (arith, (found_within line_feed s at end behind.within found).1) in (
        sym (first-behind s p) ∙ ap (λ (ls : List (List ℕ)). get_or ls 0 []) none,
        record {
          within = omega arith;
          rest = sym (drop-drop 1 p (lines_of s)) ∙ ap (drop 1) none ∙ sym (nothing_left s end (omega arith));
        },
      )

-- Nothing is read yet.
behind-none : (s : List ℕ) → Behind s 0 0
behind-none s = record { within = omega arith; rest = refl }

-- the numbers of line p + 1 are those of its words
numbers-line :
    (s : List ℕ) (p : ℕ) → 1 ≤ p → (line : List ℕ) → get_or (lines_of s) p [] ≡ line →
    numbers_on_line s (p + 1) ≡ word_numbers (words_of line)
unfolding numbers_on_line words_at
numbers-line s p l line e =
    let place : p + 1 - 1 ≡ p = omega arith in
    rw (ne_eqb (p + 1) 1 (λ q. omega arith), place, e)

numbers-missing : (s : List ℕ) (p : ℕ) → 1 ≤ p → get_or (lines_of s) p [] ≡ [] → numbers_on_line s (p + 1) ≡ []
numbers-missing s p l e = numbers-line s p l [] e ∙ numbers-empty

header-numbers : (s : List ℕ) (line : List ℕ) → get_or (lines_of s) 0 [] ≡ line → numbers_on_line s 1 ≡ numbers_behind aag (words_of line)
unfolding numbers_on_line words_at
header-numbers s line e = rw e

header-missing : (s : List ℕ) → get_or (lines_of s) 0 [] ≡ [] → numbers_on_line s 1 ≡ []
header-missing s e = header-numbers s [] e ∙ header-empty

-- The header's word is looked for: a space is found at `end`, or there is none.
module _ (line : List ℕ) (end : ℕ) (found : end ≡ 0 + span_to space (drop 0 line)) where
  header-word : end < length line → words_of line ≡ take end line ∷ words_of (drop (end + 1) line)
  header-word l =
      let whole : end - 0 ≡ end = omega arith in
      rw whole at (words-next line 0 end (omega arith) found l)

  pub header_read : end < length line → same_text (take end line) aag ≡ true
      → numbers_behind aag (words_of line) ≡ word_numbers (words_of (drop (end + 1) line))
  header_read l e = ap (numbers_behind aag) (header-word l) ∙ rw e

  pub header-other : end < length line → same_text (take end line) aag ≡ false → numbers_behind aag (words_of line) ≡ []
  header-other l e = ap (numbers_behind aag) (header-word l) ∙ rw e

  pub header-alone : length line ≤ end → numbers_behind aag (words_of line) ≡ []
  unfolding word_numbers all_unsigned unsigned_values
  header-alone l = ap (numbers_behind aag) (words-over line 0 end (omega arith) found l) ∙ cond-none (same_text (take (end - 0) line) aag)
    where
      cond-none : (b : Bool) → ◌≡◌ {A = List ℕ} (cond b [] []) []
      cond-none true = refl
      cond-none false = refl

-- Line p + 1 was looked for and read.
module _ (s : List ℕ) (p at end : ℕ) (behind : Behind s p at) (found : end ≡ at + span_to line_feed (drop at s)) (numbers : Numbers) where
  pub next-found : 1 ≤ p → end < length s → numbers ≡ first_five (word_numbers (words_of (take (end - at) (drop at s))))
      → NumbersRead s p numbers (end + 1)
  next-found l b e =
      let line = line-found s p at end behind found b in
      record { numbers-are = e ∙ ap first_five (sym (numbers-line s p l (take (end - at) (drop at s)) line.0)); behind = line.1 }

  pub next-missing : 1 ≤ p → length s ≤ end → numbers ≡ first_five [] → NumbersRead s p numbers end
  next-missing l b e =
      let line = line-missing s p at end behind found b in
      record { numbers-are = e ∙ ap first_five (sym (numbers-missing s p l line.0)); behind = line.1 }

-- So was line 1.
module _ (s : List ℕ) (end : ℕ) (found : end ≡ 0 + span_to line_feed (drop 0 s)) (numbers : Numbers) where
  pub first_found : end < length s → numbers ≡ first_five (numbers_behind aag (words_of (take end s))) → NumbersRead s 0 numbers (end + 1)
  first_found b e =
      let line = line-found s 0 0 end (behind-none s) found b in
      let whole : end - 0 ≡ end = omega arith in
      record { numbers-are = e ∙ ap first_five (sym (header-numbers s (take end s) (rw whole at line.0))); behind = line.1 }

  pub first-missing : length s ≤ end → numbers ≡ first_five [] → NumbersRead s 0 numbers end
  first-missing b e =
      let line = line-missing s 0 0 end (behind-none s) found b in
      record { numbers-are = e ∙ ap first_five (sym (header-missing s line.0)); behind = line.1 }

-- What was read of a line: it is malformed where its numbers are
module _ (s : List ℕ) (p : ℕ) (numbers : Numbers) (next : ℕ) (read : NumbersRead s p numbers next) where
  pub read-holds : HoldsNumbers numbers
  read-holds = rw read.numbers-are (five-holds (numbers_on_line s (p + 1)))

  read-malformed : malformed_at s (p + 1) ≡ malformed_line (counts_in s) (part_at (counts_in s) (p + 1)) (numbers_held numbers)
  unfolding malformed_at
  read-malformed =
      sym (malformed_line-five (counts_in s) (part_at (counts_in s) (p + 1)) (numbers_on_line s (p + 1)))
      ∙ ap (λ (n : Numbers). malformed_line (counts_in s) (part_at (counts_in s) (p + 1)) (numbers_held n)) (sym read.numbers-are)

-- the counts are those of line 1
pub counts-read : (s : List ℕ) (numbers : Numbers) (next : ℕ) → NumbersRead s 0 numbers next → counts_of (numbers_held numbers) ≡ counts_in s
unfolding counts_in
counts-read s numbers next read =
    ap (λ (n : Numbers). counts_of (numbers_held n)) read.numbers-are ∙ counts-first-five (numbers_on_line s 1)

-- line 1 is the header's
header-part : (h : Counts) → part_at h 1 ≡ Header
unfolding part_at
header-part h = refl

-- the same by the counts and the part that were found
module _ (s : List ℕ) (counts : Counts) (counts-are : counts ≡ counts_in s) where
  pub line-malformed :
      (p : ℕ) (numbers : Numbers) (next : ℕ) → NumbersRead s p numbers next → (part : Part) → part ≡ part_at counts (p + 1) →
      malformed_at s (p + 1) ≡ malformed_line counts part (numbers_held numbers)
  line-malformed p numbers next read part e = rw (e, counts-are) (read-malformed s p numbers next read)

  pub header-malformed :
      (numbers : Numbers) (next : ℕ) → NumbersRead s 0 numbers next → malformed_at s 1 ≡ malformed_line counts Header (numbers_held numbers)
  header-malformed numbers next read = line-malformed 0 numbers next read Header (sym (header-part counts))

-- One line after another is found sound: lines 1 to `line` are, and the next begins at byte `at`.
pub record SoundSoFar (s : List ℕ) (line at : ℕ) : Type 0 where
  pub some : 1 ≤ line
  pub within : line ≤ lines_due (counts_in s)
  pub behind : Behind s line at
  pub sound : (p : ℕ) → 1 ≤ p → p ≤ line → malformed_at s p ≡ false

module _ (s : List ℕ) where
  pub none-sound : malformed_at s 1 ≡ true → SoundTo s 0
  none-sound h = record { within = omega arith; sound = λ p l b. absurd (omega arith); ends = λ l. h }

  pub sound-starts : (at : ℕ) → Behind s 1 at → malformed_at s 1 ≡ false → SoundSoFar s 1 at
  sound-starts at behind h = record {
    some = omega arith;
    within = omega arith;
    behind = behind;
    sound = λ p l b. let only : p ≡ 1 = omega arith in ap (malformed_at s) only ∙ h;
  }

  module _ (line at : ℕ) (so_far : SoundSoFar s line at) where
    pub sound-next : (next : ℕ) → line < lines_due (counts_in s) → Behind s (line + 1) next → malformed_at s (line + 1) ≡ false
        → SoundSoFar s (line + 1) next
    sound-next next l behind h = record {
      some = omega arith;
      within = omega arith;
      behind = behind;
      sound = λ p a b.
          by_cases (dec_lt line p) (λ q. let last : p ≡ line + 1 = omega arith in ap (malformed_at s) last ∙ h)
          (λ q. so_far.sound p a (omega arith));
    }

    pub sound-stops : malformed_at s (line + 1) ≡ true → SoundTo s line
    sound-stops h = record { within = so_far.within; sound = so_far.sound; ends = λ l. h }

    pub sound-ends : lines_due (counts_in s) ≤ line → SoundTo s line
    sound-ends h = record { within = so_far.within; sound = so_far.sound; ends = λ l. absurd (omega arith) }
