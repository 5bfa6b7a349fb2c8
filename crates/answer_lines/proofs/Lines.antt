-- What a line makes of the lines ahead, from a line that is read in parts. No contract cites this file.
use Prim.Native.Nat.{ℕ}
use mathlib.Core.Path.{◌≡◌, refl, sym, subst, ap, ◌∙◌}
use mathlib.Core.Bool.{Bool, true, false, cond, ◌&&◌}
use mathlib.Core.List.{List, [], ◌∷◌, ◌++◌, append-nil}
use lib.IntN.{ℤ}
use lib.ListN.{drop}
use Rattle.std.specs.Prelude.{Option, Some, None}
use Rattle.decimal.specs.Digits.{space}
use Rattle.decimal.specs.TextValue.{same_text}
use Rattle.decimal.specs.SignedValue.{clause_number_in}
use Rattle.text_words.specs.Words.{words_of, Without}
use Rattle.text_words.proofs.Words.{words_last}
use Rattle.answer_signs.specs.Signs.{SignsOf}
use Rattle.answer_lines.specs.Answer.{Answer, malformed, unsatisfiable, satisfiable, is_empty, is_comment, kept_lines, number_value, all_clause_numbers, clause_numbers, is_marked, is_value_line, line_values, all_value_lines, all_values, is_zero, answer_of_values, values_answer, nothing_more, status_answer, satisfiable_line, unsatisfiable_line}
use Rattle.answer_lines.specs.Progress.{answer_from, after_numbers, status_in, progress_by, number_by, MarkedAll, NumberRead, LineRead}
use Rattle.answer_lines.specs.declared.Progress.{Progress}
use Rattle.answer_lines.specs.declared.Progress.TheVariants.{NoStatus, Values, Complete, Unsatisfiable, Malformed}
use Rattle.answer_lines.proofs.Values.{after_numbers-none, answer_of_values-next, answer_of_values-early, answer_of_values-last, answer_of_values-no, clause_numbers-some}

-- a comment and another line
pub kept_lines-comment : (l : List ℕ) (ls : List (List ℕ)) → is_comment l ≡ true → kept_lines (l ∷ ls) ≡ kept_lines ls
unfolding kept_lines
kept_lines-comment l ls e = rw e

pub kept_lines-other : (l : List ℕ) (ls : List (List ℕ)) → is_comment l ≡ false → kept_lines (l ∷ ls) ≡ l ∷ kept_lines ls
unfolding kept_lines
kept_lines-other l ls e = rw e

-- The line `v` with the words w and ws. By its first word: a number that is not 0 stands before what the others are; a 0 is the last
-- of all; no number.
module _ (w : List ℕ) (ws : List (List ℕ)) (ls : List (List ℕ)) where
  -- what the words behind the first, with the lines ahead, make
  abbrev pub others : Answer
  others = answer_of_values (all_clause_numbers ws && all_value_lines ls) (clause_numbers ws ++ all_values ls)

  abbrev pub all : Answer
  all = answer_of_values (all_clause_numbers (w ∷ ws) && all_value_lines ls) (clause_numbers (w ∷ ws) ++ all_values ls)

  pub word_number : (z : ℤ) → clause_number_in w ≡ Some z → is_zero z ≡ false → all ≡ after_numbers (z ∷ []) others
  unfolding all_clause_numbers clause_numbers
  word_number z e n = rw e (answer_of_values-next (all_clause_numbers ws && all_value_lines ls) z (clause_numbers ws ++ all_values ls) n)

  pub word-early : (z : ℤ) → clause_number_in w ≡ Some z → is_zero z ≡ true → is_empty (clause_numbers ws ++ all_values ls) ≡ false → all ≡ malformed
  unfolding all_clause_numbers clause_numbers
  word-early z e n some = rw e (answer_of_values-early (all_clause_numbers ws && all_value_lines ls) z (clause_numbers ws ++ all_values ls) n some)

  pub word_none : clause_number_in w ≡ None → all ≡ malformed
  unfolding all_clause_numbers clause_numbers
  word_none e = rw e (answer_of_values-no (number_value None ∷ (clause_numbers ws ++ all_values ls)))

-- a value line, by its words
pub value_line_lem : (l : List ℕ) (ws : List (List ℕ)) (ls : List (List ℕ)) → is_marked l ≡ true → words_of (drop 2 l) ≡ ws
    → values_answer (l ∷ ls) ≡ answer_of_values (all_clause_numbers ws && all_value_lines ls) (clause_numbers ws ++ all_values ls)
unfolding values_answer all_value_lines all_values is_value_line line_values
value_line_lem l ws ls m e = rw (m, e)

-- no value line
pub unmarked-line : (l : List ℕ) (ls : List (List ℕ)) → is_marked l ≡ false → values_answer (l ∷ ls) ≡ malformed
unfolding values_answer all_value_lines is_value_line
unmarked-line l ls m = rw m (answer_of_values-no (all_values (l ∷ ls)))

-- a 0 with nothing behind it on its line
zero-last : (w : List ℕ) (ls : List (List ℕ)) (z : ℤ) → clause_number_in w ≡ Some z → is_zero z ≡ true
    → all w [] ls ≡ nothing_more (satisfiable []) ls
zero-last w [] z e n = unfold all_clause_numbers clause_numbers all_value_lines all_values nothing_more in rw e (answer_of_values-last z n)
zero-last w (l ∷ ls) z e n =
    word-early w [] (l ∷ ls) z e n (unfold clause_numbers all_values line_values in clause_numbers-some (drop 2 l) (all_values ls)) ∙ unfold nothing_more in refl

-- a line with one number
module _ (l : List ℕ) (ls : List (List ℕ)) (m : is_marked l ≡ true) (one : Without space (drop 2 l)) where
  last_word : values_answer (l ∷ ls) ≡ all (drop 2 l) [] ls
  last_word = value_line_lem l (drop 2 l ∷ []) ls m (words_last (drop 2 l) one)

  last-read : (number : Option ℤ) → clause_number_in (drop 2 l) ≡ number
      → values_answer (l ∷ ls) ≡ after_numbers (number_by number) (answer_from (progress_by number) ls)
  unfolding after_numbers answer_from values_answer all_clause_numbers clause_numbers
  last-read (Some z) e = by_zero (is_zero z) refl
    where
      by_zero : (b : Bool) → is_zero z ≡ b → values_answer (l ∷ ls) ≡ after_numbers (cond b [] (z ∷ [])) (answer_from (cond b Complete Values) ls)
      by_zero true n = last_word ∙ zero-last (drop 2 l) ls z e n ∙ sym (after_numbers-none (nothing_more (satisfiable []) ls))
      by_zero false n = last_word ∙ word_number (drop 2 l) [] ls z e n
  last-read None e = last_word ∙ word_none (drop 2 l) [] ls e

-- a status line
status-read : (l : List ℕ) (ls : List (List ℕ)) → status_answer (l ∷ ls) ≡ answer_from (status_in l) ls
unfolding status_answer status_in answer_from
status-read l ls = by-text (same_text l satisfiable_line) (same_text l unsatisfiable_line)
  where
    by-text : (a b : Bool) → cond a (values_answer ls) (cond b (nothing_more unsatisfiable ls) malformed)
        ≡ answer_from (cond a Values (cond b Unsatisfiable Malformed)) ls
    by-text true b = refl
    by-text false true = refl
    by-text false false = refl

-- what was read of a number, and of a line
pub same-signs : (table : List ℕ) → MarkedAll [] table table
same-signs table ys s = subst (λ (zs : List ℤ). SignsOf zs table) (sym (append-nil ys)) s

pub number-none : {number : Option ℤ} {table : List ℕ} → number ≡ None → NumberRead number Malformed table table
number-none {table = table} e = record { progress-is = rw e; marked = rw e (same-signs table) }

pub number-zero : {number : Option ℤ} {table : List ℕ} (z : ℤ) → number ≡ Some z → is_zero z ≡ true → NumberRead number Complete table table
number-zero {table = table} z e n = record { progress-is = rw (e, n); marked = rw (e, n) (same-signs table) }

pub number-some : {number : Option ℤ} {old new : List ℕ} (z : ℤ) → number ≡ Some z → is_zero z ≡ false
    → MarkedAll (z ∷ []) old new → NumberRead number Values old new
number-some z e n m = record { progress-is = rw (e, n); marked = rw (e, n) m }

pub line-comment : {p : Progress} {table : List ℕ} (l : List ℕ) → is_comment l ≡ true → LineRead p l p table table
line-comment {p} {table} l e =
    record {
      numbers = [];
      marked = same-signs table;
      goes_on = λ ls. ap (answer_from p) (kept_lines-comment l ls e) ∙ sym (after_numbers-none (answer_from p (kept_lines ls)));
    }

module _ (l : List ℕ) (e : is_comment l ≡ false) where
  pub line-malformed : {p : Progress} {table : List ℕ} → ((ls : List (List ℕ)) → answer_from p (l ∷ ls) ≡ malformed)
      → LineRead p l Malformed table table
  unfolding answer_from after_numbers
  line-malformed {p} {table} h =
      record { numbers = []; marked = same-signs table; goes_on = λ ls. ap (answer_from p) (kept_lines-other l ls e) ∙ h (kept_lines ls) }

  pub line-status : {table : List ℕ} → LineRead NoStatus l (status_in l) table table
  unfolding answer_from
  line-status {table} =
      record {
        numbers = [];
        marked = same-signs table;
        goes_on = λ ls. ap status_answer (kept_lines-other l ls e) ∙ status-read l (kept_lines ls) ∙ sym (after_numbers-none (answer_from (status_in l) (kept_lines ls)));
      }

  pub line-value : {r : Progress} {old new : List ℕ} → is_marked l ≡ true → Without space (drop 2 l)
      → NumberRead (clause_number_in (drop 2 l)) r old new → LineRead Values l r old new
  unfolding answer_from
  line-value {r} {old} {new} m one x =
      record {
        numbers = number_by (clause_number_in (drop 2 l));
        marked = x.marked;
        goes_on = λ ls. ap values_answer (kept_lines-other l ls e) ∙ rw x.progress-is (last-read l (kept_lines ls) m one (clause_number_in (drop 2 l)) refl);
      }

-- a line where none may follow
pub line-too-many : (a : Answer) (l : List ℕ) (ls : List (List ℕ)) → nothing_more a (l ∷ ls) ≡ malformed
unfolding nothing_more
line-too-many a l ls = refl
