-- Laws of specs/Written.antt. No contract cites this file.
use Prim.Native.Nat.{ℕ, zero, suc, ◌^◌, ◌<◌}
use mathlib.Core.Path.{◌≡◌, refl, sym, ap, ap₂, ◌∙◌}
use mathlib.Core.Bool.{true, false, true≢false, false≢true}
use mathlib.Core.List.{List, [], ◌∷◌, ◌++◌, map, append-nil}
use native.Mathlib.Omega.{arith}
use lib.IntN.{ℤ, pos, negsuc, nat_abs}
use lib.ListN.{length, drop}
use Rattle.std.specs.Prelude.{Option, Some, None}
use Rattle.model.proofs.Booleans.{and-true}
use Rattle.decimal.specs.Digits.{space, line_feed, signed_digits}
use Rattle.decimal.specs.TextValue.{same_text}
use Rattle.decimal.specs.SignedValue.{clause_number_in}
use Rattle.decimal.proofs.SignedValue.{clause_number_in-digits, digits-clause_number_in}
use Rattle.text_words.specs.Words.{lines_of, words_of, spaced, ended, Without}
use Rattle.text_words.proofs.Words.{ended-parts, EachWithout, nothing, also, spaced-words, words-spaced, digits-without}
use Rattle.answer_lines.specs.Answer.{is_empty, is_clause_number, number_value, all_clause_numbers, clause_numbers, is_marked, is_value_line, line_values}
use Rattle.answer_lines.specs.Written.{value_line, Numbers, AnswerAsWritten}
use Rattle.answer_lines.proofs.Texts.{marked-line}
use Rattle.answer_lines.proofs.Values.{clause_numbers-some}

-- the digits of a number have no space among them, nor has its minus
signed-without : (z : ℤ) → Without space (signed_digits z)
unfolding signed_digits
signed-without (pos x) i l h = digits-without x i l h
signed-without (negsuc x) zero l h = omega arith
signed-without (negsuc x) (suc i) l h = digits-without (suc x) i (omega arith) h

each-without : (zs : List ℤ) → EachWithout space (map signed_digits zs)
each-without [] = nothing
each-without (z ∷ zs) = also (signed-without z) (each-without zs)

-- words that are numbers are the digits of their values
digits-clause_numbers : (ws : List (List ℕ)) → all_clause_numbers ws ≡ true → (map signed_digits (clause_numbers ws) ≡ ws) × Numbers (clause_numbers ws)
unfolding all_clause_numbers clause_numbers
digits-clause_numbers [] h = (refl, λ i. omega arith)
digits-clause_numbers (w ∷ ws) h =
    let both = (and-true (is_clause_number (clause_number_in w)) (all_clause_numbers ws)).0 h in
    let first = of_number (clause_number_in w) refl both.0 in
    let later = digits-clause_numbers ws both.1 in
    (ap₂ (λ (x : List ℕ) (xs : List (List ℕ)). x ∷ xs) first.0 later.0, small (number_value (clause_number_in w)) (clause_numbers ws) first.1 later.1)
  where
    of_number : (r : Option ℤ) → clause_number_in w ≡ r → is_clause_number r ≡ true → (signed_digits (number_value r) ≡ w) × (nat_abs (number_value r) < 2 ^ 31)
    of_number (Some z) e h = (sym (digits-clause_number_in w z e).0, (digits-clause_number_in w z e).1)
    of_number None e h = absurd (false≢true h)

    small : (z : ℤ) (zs : List ℤ) → nat_abs z < 2 ^ 31 → Numbers zs → Numbers (z ∷ zs)
    small z zs f g zero = f
    small z zs f g (suc i) = g i

-- and digits are read as the numbers they are of
clause_numbers-digits : (zs : List ℤ) → Numbers zs → (all_clause_numbers (map signed_digits zs) ≡ true) × (clause_numbers (map signed_digits zs) ≡ zs)
unfolding all_clause_numbers clause_numbers
clause_numbers-digits [] h = (refl, refl)
clause_numbers-digits (z ∷ zs) h =
    let e : clause_number_in (signed_digits z) ≡ Some z = clause_number_in-digits z (h 0) in
    let later = clause_numbers-digits zs (λ i. h (suc i)) in
    (rw (e, later.0), rw (e, later.1))

line→numbers : (l : List ℕ) → is_value_line l ≡ true → (l ≡ value_line (line_values l)) × (0 < length (line_values l)) × Numbers (line_values l)
unfolding is_value_line line_values value_line
line→numbers l h =
    let both = (and-true (is_marked l) (all_clause_numbers (words_of (drop 2 l)))).0 h in
    let read = digits-clause_numbers (words_of (drop 2 l)) both.1 in (
      marked-line l both.0 ∙ ap (λ (t : List ℕ). 118 ∷ space ∷ t) (sym (ap spaced read.0 ∙ spaced-words (drop 2 l))),
      some (clause_numbers (words_of (drop 2 l))) (clause_numbers-some (drop 2 l) []),
      read.1,
    )
  where
    some : (zs : List ℤ) → is_empty (zs ++ []) ≡ false → 0 < length zs
    some [] e = absurd (true≢false e)
    some (z ∷ zs) e = omega arith

numbers→line : (zs : List ℤ) → 0 < length zs → Numbers zs → (is_value_line (value_line zs) ≡ true) × (line_values (value_line zs) ≡ zs)
unfolding is_value_line line_values value_line same_text
numbers→line [] l n = absurd (omega arith)
numbers→line (z ∷ zs) l n =
    let words : words_of (spaced (map signed_digits (z ∷ zs))) ≡ map signed_digits (z ∷ zs) =
    words-spaced (signed_digits z) (map signed_digits zs) (each-without (z ∷ zs)) in
    let read = clause_numbers-digits (z ∷ zs) n in
    (rw words read.0, rw words read.1)

pub as_written : AnswerAsWritten
as_written =
    record {
      lines→text = λ s e. sym (append-nil (ended line_feed (lines_of s))) ∙ ap (λ (t : List ℕ). ended line_feed (lines_of s) ++ t) (sym e) ∙ ended-parts line_feed [] s;
      line→numbers = line→numbers;
      numbers→line = numbers→line;
    }
