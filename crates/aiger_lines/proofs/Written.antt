-- Laws of specs/Written.antt: the words of a line of numbers are their digits, and a line is its words joined. No contract cites
-- this file.
use Prim.Native.Nat.{ℕ, zero, suc, ◌-◌, ◌^◌, ◌<◌}
use mathlib.Core.Path.{◌≡◌, refl, sym, ap, ap₂, ◌∙◌}
use mathlib.Core.Bool.{Bool, true, false, cond, false≢true}
use mathlib.Core.List.{List, [], ◌∷◌, ◌++◌, map}
use native.Mathlib.Omega.{arith}
use lib.Dec.{eqb}
use lib.ListN.{length, get_or}
use Rattle.std.specs.Prelude.{Option, Some, None}
use Rattle.model.proofs.Booleans.{and-true}
use Rattle.decimal.specs.Digits.{digits, space, line_feed}
use Rattle.decimal.specs.TextValue.{number_in, same_text}
use Rattle.decimal.proofs.TextValue.{same_text-refl, same_text-true, number_in-digits, digits-number_in}
use Rattle.text_words.specs.Words.{lines_of, words_of, spaced, Without}
use Rattle.text_words.proofs.Words.{parts_first, parts_none, words-first, EachWithout, nothing, also, spaced-words, words-spaced, digits-without}
use Rattle.aiger_lines.specs.Numbers.{is_unsigned, unsigned_value, all_unsigned, unsigned_values, word_numbers, words_at}
use Rattle.aiger_lines.specs.Parts.{aag, numbers_behind, numbers_on_line}
use Rattle.aiger_lines.specs.Written.{numbers_text, line_with_numbers, TextAsWritten}

-- no number has a space among its digits
each-without : (xs : List ℕ) → EachWithout space (map digits xs)
each-without [] = nothing
each-without (x ∷ xs) = also (digits-without x) (each-without xs)

-- what digits are read as
numbers-digits : (xs : List ℕ) → ((i : ℕ) → get_or xs i 0 < 2 ^ 32) → (all_unsigned (map digits xs) ≡ true) × (unsigned_values (map digits xs) ≡ xs)
unfolding all_unsigned unsigned_values
numbers-digits [] h = (refl, refl)
numbers-digits (x ∷ xs) h =
    let e : number_in (digits x) ≡ Some x = number_in-digits x (h 0) in
    let later = numbers-digits xs (λ i. h (suc i)) in
    (rw (e, later.0), rw (e, later.1))

-- words that are numbers are the digits of their values
digits-numbers : (ws : List (List ℕ)) → all_unsigned ws ≡ true → map digits (unsigned_values ws) ≡ ws
unfolding all_unsigned unsigned_values
digits-numbers [] h = refl
digits-numbers (w ∷ ws) h =
    let both = (and-true (is_unsigned (number_in w)) (all_unsigned ws)).0 h in
    ap₂ (λ (x : List ℕ) (xs : List (List ℕ)). x ∷ xs) (of_number (number_in w) refl both.0) (digits-numbers ws both.1)
  where
    of_number : (r : Option ℕ) → number_in w ≡ r → is_unsigned r ≡ true → digits (unsigned_value r) ≡ w
    of_number (Some x) e h = sym (digits-number_in w x e).0
    of_number None e h = absurd (false≢true h)

-- words of which there are numbers are the digits of these
number-words : (ws : List (List ℕ)) → 0 < length (word_numbers ws) → map digits (word_numbers ws) ≡ ws
unfolding word_numbers
number-words ws = by-test (all_unsigned ws) refl
  where
    by-test : (b : Bool) → all_unsigned ws ≡ b → 0 < length (cond b (unsigned_values ws) []) → map digits (cond b (unsigned_values ws) []) ≡ ws
    by-test true e l = digits-numbers ws e
    by-test false e l = absurd (omega arith)

-- a line and its numbers are one
numbers-line : (s : List ℕ) → 0 < length (word_numbers (words_of s)) → s ≡ numbers_text (word_numbers (words_of s))
unfolding numbers_text
numbers-line s l = sym (ap spaced (number-words (words_of s) l) ∙ spaced-words s)

line-numbers : (xs : List ℕ) → 0 < length xs → ((i : ℕ) → get_or xs i 0 < 2 ^ 32) → word_numbers (words_of (numbers_text xs)) ≡ xs
unfolding word_numbers numbers_text
line-numbers [] l h = absurd (omega arith)
line-numbers (x ∷ xs) l h =
    let read = numbers-digits (x ∷ xs) h in
    rw (words-spaced (digits x) (map digits xs) (each-without (x ∷ xs)), read.0) read.1

-- so are line 1 and the header's
aag-without : Without space aag
aag-without zero l h = omega arith
aag-without (suc zero) l h = omega arith
aag-without (suc (suc zero)) l h = omega arith
aag-without (suc (suc (suc i))) l h = omega arith

of_words : (ws : List (List ℕ)) → 0 < length (numbers_behind aag ws) → spaced ws ≡ aag ++ space ∷ numbers_text (numbers_behind aag ws)
unfolding spaced numbers_text word_numbers all_unsigned unsigned_values
of_words [] l = absurd (omega arith)
of_words (w ∷ ws) l = by_word ws (same_text w aag) refl l
  where
    by_word : (ws : List (List ℕ)) (b : Bool) → same_text w aag ≡ b → 0 < length (cond b (word_numbers ws) [])
        → spaced (w ∷ ws) ≡ aag ++ space ∷ numbers_text (cond b (word_numbers ws) [])
    by_word [] true q l = absurd (omega arith)
    by_word [] false q l = absurd (omega arith)
    by_word (x ∷ ws) true q l =
        ap₂ (λ (a b : List ℕ). a ++ space ∷ b) (same_text-true w aag q) (ap spaced (sym (number-words (x ∷ ws) l)))
    by_word (x ∷ ws) false q l = absurd (omega arith)

header-line : (s : List ℕ) → 0 < length (numbers_behind aag (words_of s)) → s ≡ aag ++ space ∷ numbers_text (numbers_behind aag (words_of s))
header-line s l = sym (spaced-words s) ∙ of_words (words_of s) l

-- whatever word it begins with
pub line-behind : (word : List ℕ) → Without space word → (xs : List ℕ) → 0 < length xs → ((i : ℕ) → get_or xs i 0 < 2 ^ 32)
    → numbers_behind word (words_of (word ++ space ∷ numbers_text xs)) ≡ xs
line-behind word w xs l h = ap (numbers_behind word) (words-first word (numbers_text xs) w) ∙ rw (same_text-refl word) (line-numbers xs l h)

-- a number on a line fits 32 bits
unsigned_value-fits : (w : List ℕ) (r : Option ℕ) → number_in w ≡ r → unsigned_value r < 2 ^ 32
unsigned_value-fits w (Some x) e = (digits-number_in w x e).1
unsigned_value-fits w None e = omega arith

unsigned_values-fit : (ws : List (List ℕ)) (i : ℕ) → get_or (unsigned_values ws) i 0 < 2 ^ 32
unfolding unsigned_values
unsigned_values-fit [] i = omega arith
unsigned_values-fit (w ∷ ws) zero = unsigned_value-fits w (number_in w) refl
unsigned_values-fit (w ∷ ws) (suc i) = unsigned_values-fit ws i

chosen-fit : (b : Bool) (xs : List ℕ) (i : ℕ) → get_or xs i 0 < 2 ^ 32 → get_or (cond b xs []) i 0 < 2 ^ 32
chosen-fit true xs i h = h
chosen-fit false xs i h = omega arith

word_numbers-fit : (ws : List (List ℕ)) (i : ℕ) → get_or (word_numbers ws) i 0 < 2 ^ 32
unfolding word_numbers
word_numbers-fit ws i = chosen-fit (all_unsigned ws) (unsigned_values ws) i (unsigned_values-fit ws i)

header_numbers-fit : (ws : List (List ℕ)) (i : ℕ) → get_or (numbers_behind aag ws) i 0 < 2 ^ 32
header_numbers-fit [] i = omega arith
header_numbers-fit (w ∷ ws) i = chosen-fit (same_text w aag) (word_numbers ws) i (word_numbers-fit ws i)

pub numbers_on_line-fit : (s : List ℕ) (p i : ℕ) → get_or (numbers_on_line s p) i 0 < 2 ^ 32
unfolding numbers_on_line
numbers_on_line-fit s p i = by_place (eqb p 1)
  where
    by_place : (b : Bool) → get_or (cond b (numbers_behind aag (words_at s p)) (word_numbers (words_at s p))) i 0 < 2 ^ 32
    by_place true = header_numbers-fit (words_at s p) i
    by_place false = word_numbers-fit (words_at s p) i

pub read-as-written : TextAsWritten
unfolding line_with_numbers numbers_on_line words_at
read-as-written = record {
  text→lines = λ x s w. parts_first line_feed x s w;
  text→no-line = λ x w. parts_none line_feed [] x w;
  numbers→text = λ s p. by_place (eqb p 1) (get_or (lines_of s) (p - 1) []);
  numbers_fit = numbers_on_line-fit;
  text→numbers = λ s p xs l h e. rw e (back (eqb p 1) xs l h);
}
  where
    by_place : (b : Bool) (line : List ℕ) → 0 < length (cond b (numbers_behind aag (words_of line)) (word_numbers (words_of line)))
        → line ≡ cond b (aag ++ space ∷ numbers_text (cond b (numbers_behind aag (words_of line)) (word_numbers (words_of line))))
        (numbers_text (cond b (numbers_behind aag (words_of line)) (word_numbers (words_of line))))
    by_place true line l = header-line line l
    by_place false line l = numbers-line line l

    back : (b : Bool) (xs : List ℕ) → 0 < length xs → ((i : ℕ) → get_or xs i 0 < 2 ^ 32)
        → cond b (numbers_behind aag (words_of (cond b (aag ++ space ∷ numbers_text xs) (numbers_text xs))))
        (word_numbers (words_of (cond b (aag ++ space ∷ numbers_text xs) (numbers_text xs)))) ≡ xs
    back true xs l h = line-behind aag aag-without xs l h
    back false xs l h = line-numbers xs l h
