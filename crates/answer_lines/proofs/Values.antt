-- Numbers of words, what one number more in front makes of the numbers behind `s SATISFIABLE`, and answers behind numbers. No contract cites this file.
use Prim.Native.Nat.{ℕ, zero, suc}
use mathlib.Core.Path.{◌≡◌, refl, sym, ap, ◌∙◌}
use mathlib.Core.Bool.{Bool, true, false, cond, ◌&&◌}
use mathlib.Core.List.{List, [], ◌∷◌, ◌++◌, append_assoc}
use native.Mathlib.Omega.{arith}
use lib.IntN.{ℤ, pos, negsuc}
use mir.Syntax.{w32}
use mir.Val.{to_z, of_z, SFits}
use borrow.Author.Tests.{ne_eqb}
use Rattle.std.specs.Prelude.{Some}
use Rattle.literals.proofs.Literal.{fits}
use Rattle.decimal.specs.Digits.{space}
use Rattle.decimal.specs.SignedValue.{clause_number_in}
use Rattle.decimal.proofs.Signed.{read_back}
use Rattle.decimal.proofs.SignedValue.{digits-clause_number_in}
use Rattle.text_words.specs.Words.{words_of, parts_after, rest_after}
use Rattle.answer_lines.specs.Answer.{Answer, malformed, unsatisfiable, satisfiable, is_empty, is_zero, only_last_zero, before_zero, answer_of_values, clause_numbers}
use Rattle.answer_lines.specs.Progress.{after_numbers}

-- a number of a word is 0 where the machine's is
module _ (s : List ℕ) (z : ℤ) (e : clause_number_in s ≡ Some z) where
  pub word_fits : SFits w32 z
  word_fits = fits z (digits-clause_number_in s z e).1

  pub word-zero : of_z w32 z ≡ 0 → is_zero z ≡ true
  word-zero h = let zero_is : z ≡ pos 0 = sym (read_back z word_fits) ∙ ap (to_z w32) h in rw zero_is

pub word-nonzero : (z : ℤ) → (of_z w32 z ≡ 0 → ⊥) → is_zero z ≡ false
word-nonzero (pos zero) n = absurd (n refl)
word-nonzero (pos (suc x)) n = ne_eqb (suc x) 0 (λ h. omega arith)
word-nonzero (negsuc x) n = ne_eqb (suc x) 0 (λ h. omega arith)

-- an answer behind none is itself, and numbers stand one behind the other
pub after_numbers-none : (a : Answer) → after_numbers [] a ≡ a
unfolding after_numbers
after_numbers-none malformed = refl
after_numbers-none unsatisfiable = refl
after_numbers-none (satisfiable ys) = refl

pub after_numbers-append : (xs ys : List ℤ) (a : Answer) → after_numbers (xs ++ ys) a ≡ after_numbers xs (after_numbers ys a)
unfolding after_numbers
after_numbers-append xs ys malformed = refl
after_numbers-append xs ys unsatisfiable = refl
after_numbers-append xs ys (satisfiable zs) = ap satisfiable (append_assoc xs ys zs)

-- a number that is not 0
pub answer_of_values-next : (b : Bool) (z : ℤ) (zs : List ℤ) → is_zero z ≡ false → answer_of_values b (z ∷ zs) ≡ after_numbers (z ∷ []) (answer_of_values b zs)
unfolding answer_of_values after_numbers only_last_zero before_zero
answer_of_values-next b z zs e = rw (e) (by-rest (b && only_last_zero zs))
  where
    by-rest : (b : Bool) → cond b (satisfiable (z ∷ before_zero zs)) malformed ≡ after_numbers (z ∷ []) (cond b (satisfiable (before_zero zs)) malformed)
    by-rest true = refl
    by-rest false = refl

-- a 0 with a number behind it
pub answer_of_values-early : (b : Bool) (z : ℤ) (zs : List ℤ) → is_zero z ≡ true → is_empty zs ≡ false → answer_of_values b (z ∷ zs) ≡ malformed
unfolding answer_of_values only_last_zero
answer_of_values-early true z zs e some = rw (e, some)
answer_of_values-early false z zs e some = refl

-- a 0 alone
pub answer_of_values-last : (z : ℤ) → is_zero z ≡ true → answer_of_values true (z ∷ []) ≡ satisfiable []
unfolding answer_of_values only_last_zero before_zero
answer_of_values-last z e = rw e

pub answer_of_values-no : (zs : List ℤ) → answer_of_values false zs ≡ malformed
unfolding answer_of_values
answer_of_values-no zs = refl

-- a line has one word or more
pub clause_numbers-some : (s : List ℕ) (zs : List ℤ) → is_empty (clause_numbers (words_of s) ++ zs) ≡ false
unfolding words_of
clause_numbers-some s zs = by_parts (parts_after space [] s) (rest_after space [] s)
  where
    by_parts : (ws : List (List ℕ)) (w : List ℕ) → is_empty (clause_numbers (ws ++ w ∷ []) ++ zs) ≡ false
    by_parts [] w = unfold clause_numbers in refl
    by_parts (x ∷ ws) w = unfold clause_numbers in refl
