-- A value line that is begun: a number that a space ends, and lines that make the answer malformed however they go on. No contract cites
-- this file.
use Prim.Native.Nat.{ℕ, ◌≤◌}
use mathlib.Core.Path.{◌≡◌, refl, sym, ap, ◌∙◌}
use mathlib.Core.Bool.{Bool, true, false, cond, true≢false, false≢true}
use mathlib.Core.List.{List, [], ◌∷◌, ◌++◌, append_assoc, append-nil}
use native.Mathlib.Omega.{arith}
use lib.Dec.{eqb}
use lib.IntN.{ℤ}
use lib.ListN.{length, drop, length-append, length-drop}
use lib.Seq.{take-append-le}
use Rattle.std.specs.Prelude.{Option, Some, None}
use Rattle.decimal.specs.Digits.{space}
use Rattle.decimal.specs.TextValue.{same_text}
use Rattle.decimal.specs.SignedValue.{clause_number_in}
use Rattle.decimal.proofs.Signed.{length-signed_digits}
use Rattle.decimal.proofs.SignedValue.{clause_number_in-other}
use Rattle.literals.proofs.Literal.{fits}
use Rattle.text_words.specs.Words.{parts_after, rest_after, words_of, Without}
use Rattle.text_words.proofs.Words.{words-first, parts-append, rest-append, parts_none, rest_all}
use Rattle.answer_lines.specs.Answer.{malformed, unsatisfiable, satisfiable, is_comment, kept_lines, is_marked, is_zero, values_answer, status_answer, satisfiable_line, unsatisfiable_line}
use Rattle.answer_lines.specs.Progress.{answer_from, after_numbers, progress_by, number_by, OneNumber}
use Rattle.answer_lines.specs.declared.Progress.{Progress}
use Rattle.answer_lines.specs.declared.Progress.TheVariants.{NoStatus, Values, Complete, Unsatisfiable, Malformed}
use Rattle.answer_scan.specs.Scan.{is_values}
use Rattle.answer_lines.proofs.Texts.{same-lengths, marked-line}
use Rattle.answer_lines.proofs.Values.{clause_numbers-some}
use Rattle.answer_lines.proofs.Lines.{kept_lines-other, all, word_number, word-early, word_none, value_line_lem, unmarked-line, line-too-many}

-- a line with the mark, where no value line may stand
pub marked-elsewhere : (p : Progress) (w : List ℕ) → is_values p ≡ false → (r : List ℕ) (ls : List (List ℕ))
    → answer_from p (kept_lines ((((118 ∷ w) ++ r)) ∷ ls)) ≡ malformed
unfolding answer_from kept_lines status_answer same_text
marked-elsewhere NoStatus w n r ls = refl
marked-elsewhere Values w n r ls = absurd (true≢false n)
marked-elsewhere Complete w n r ls = line-too-many (satisfiable []) (118 ∷ (w ++ r)) (kept_lines ls)
marked-elsewhere Unsatisfiable w n r ls = line-too-many unsatisfiable (118 ∷ (w ++ r)) (kept_lines ls)
marked-elsewhere Malformed w n r ls = refl

-- The line `v w r`: a number that is not 0 stands before what the rest of the line is, and any other word makes the answer malformed.
module _ (w r : List ℕ) (ls : List (List ℕ)) (one : Without space w) where
  abbrev line : List ℕ
  line = 118 ∷ space ∷ (w ++ space ∷ r)

  by-words : values_answer (line ∷ ls) ≡ all w (words_of r) ls
  by-words = value_line_lem line (w ∷ words_of r) ls (unfold same_text in refl) (words-first w r one)

  pub number-kept : (number : Option ℤ) → clause_number_in w ≡ number → is_values (progress_by number) ≡ true
      → values_answer (line ∷ ls) ≡ after_numbers (number_by number) (values_answer ((118 ∷ space ∷ r) ∷ ls))
  number-kept (Some z) e v = by_zero (is_zero z) refl v
    where
      by_zero : (b : Bool) → is_zero z ≡ b → is_values (cond b Complete Values) ≡ true
          → values_answer (line ∷ ls) ≡ after_numbers (cond b [] (z ∷ [])) (values_answer ((118 ∷ space ∷ r) ∷ ls))
      by_zero true n v = absurd (false≢true v)
      by_zero false n v =
          by-words ∙ word_number w (words_of r) ls z e n
          ∙ ap (after_numbers (z ∷ [])) (sym (value_line_lem (118 ∷ space ∷ r) (words_of r) ls (unfold same_text in refl) refl))
  number-kept None e v = absurd (false≢true v)

  pub number-dead : (number : Option ℤ) → clause_number_in w ≡ number → is_values (progress_by number) ≡ false → values_answer (line ∷ ls) ≡ malformed
  number-dead (Some z) e v = by_zero (is_zero z) refl v
    where
      by_zero : (b : Bool) → is_zero z ≡ b → is_values (cond b Complete Values) ≡ false → values_answer (line ∷ ls) ≡ malformed
      by_zero true n v = by-words ∙ word-early w (words_of r) ls z e n (clause_numbers-some r _)
      by_zero false n v = absurd (true≢false v)
  number-dead None e v = by-words ∙ word_none w (words_of r) ls e

-- the first word of a line goes on from what stands before the first space
record FirstWord (begun r : List ℕ) : Type 0 where
  more : List ℕ
  others : List (List ℕ)
  is : parts_after space begun r ++ rest_after space begun r ∷ [] ≡ (begun ++ more) ∷ others

first-after : (begun r : List ℕ) → FirstWord begun r
first-after begun [] = record { more = []; others = []; is = unfold parts_after rest_after in ap (λ (w : List ℕ). w ∷ []) (sym (append-nil begun)) }
first-after begun (x ∷ r) = by_byte (eqb x space) refl (first-after (begun ++ x ∷ []) r)
  where
    by_byte : (b : Bool) → eqb x space ≡ b → FirstWord (begun ++ x ∷ []) r → FirstWord begun (x ∷ r)
    by_byte true e f =
        record {
          more = [];
          others = parts_after space [] r ++ rest_after space [] r ∷ [];
          is = unfold parts_after rest_after in rw (e, append-nil begun);
        }
    by_byte false e f =
        record {
          more = x ∷ f.more;
          others = f.others;
          is = unfold parts_after rest_after in rw e (f.is ∙ ap (λ (w : List ℕ). w ∷ f.others) (append_assoc begun (x ∷ []) f.more));
        }

first_word : (w r : List ℕ) → Without space w → words_of (w ++ r) ≡ (w ++ (first-after w r).more) ∷ (first-after w r).others
unfolding words_of
first_word w r one =
    rw (parts-append space [] w r, rest-append space [] w r, parts_none space [] w one, rest_all space [] w one) (first-after w r).is

long-word : (w x : List ℕ) → 12 ≤ length w → clause_number_in (w ++ x) ≡ None
long-word w x h =
    clause_number_in-other (w ++ x)
    (λ z l e. omega (arith, length-signed_digits z (fits z l), sym (length-append w x) ∙ ap length e))

-- a line with more bytes than any that counts
module _ (begun : List ℕ) (long : 16 ≤ length begun) (other : is_comment begun ≡ false) (one : OneNumber begun) where
  goes-on-other : (r : List ℕ) → is_comment (begun ++ r) ≡ false
  goes-on-other r = at begun long other
    where
      at : (begun : List ℕ) → 16 ≤ length begun → is_comment begun ≡ false → is_comment (begun ++ r) ≡ false
      at [] l e = absurd (omega arith)
      at (x ∷ begun) l e = e

  long-status : (r : List ℕ) (ls : List (List ℕ)) → status_answer ((begun ++ r) ∷ ls) ≡ malformed
  unfolding status_answer
  long-status r ls =
      rw (
        same-lengths (begun ++ r) satisfiable_line (λ e. omega (arith, sym (length-append begun r) ∙ e)),
        same-lengths (begun ++ r) unsatisfiable_line (λ e. omega (arith, sym (length-append begun r) ∙ e)),
      )

  long-values : (r : List ℕ) (ls : List (List ℕ)) → values_answer ((begun ++ r) ∷ ls) ≡ malformed
  long-values r ls = by-mark (is_marked begun) refl
    where
      by-mark : (b : Bool) → is_marked begun ≡ b → values_answer ((begun ++ r) ∷ ls) ≡ malformed
      by-mark true m =
          let w = drop 2 begun in
          ap (λ (l : List ℕ). values_answer ((l ++ r) ∷ ls)) (marked-line begun m)
          ∙ value_line_lem (118 ∷ space ∷ (w ++ r)) ((w ++ (first-after w r).more) ∷ (first-after w r).others) ls (unfold same_text in refl) (first_word w r (one m))
          ∙ word_none (w ++ (first-after w r).more) (first-after w r).others ls (long-word w (first-after w r).more (rw length-drop (omega arith)))
      by-mark false m = unmarked-line (begun ++ r) ls (rw (take-append-le 2 begun r (omega arith)) m)

  pub long-dead : (p : Progress) (r : List ℕ) (ls : List (List ℕ)) → answer_from p (kept_lines ((begun ++ r) ∷ ls)) ≡ malformed
  long-dead p r ls = ap (answer_from p) (kept_lines-other (begun ++ r) ls (goes-on-other r)) ∙ unfold answer_from in by-progress p
    where
      by-progress : (p : Progress) → answer_from p ((begun ++ r) ∷ kept_lines ls) ≡ malformed
      by-progress NoStatus = unfold answer_from in long-status r (kept_lines ls)
      by-progress Values = unfold answer_from in long-values r (kept_lines ls)
      by-progress Complete = unfold answer_from in line-too-many (satisfiable []) (begun ++ r) (kept_lines ls)
      by-progress Unsatisfiable = unfold answer_from in line-too-many unsatisfiable (begun ++ r) (kept_lines ls)
      by-progress Malformed = unfold answer_from in refl
