-- What the first bytes of a line say. No contract cites this file.
use Prim.Native.Nat.{ℕ, ◌≤◌, ◌<◌}
use mathlib.Core.Path.{◌≡◌, refl, sym, ap, ◌∙◌}
use mathlib.Core.Bool.{Bool, true, false, ◌&&◌}
use mathlib.Core.List.{List, [], ◌∷◌, ◌++◌}
use native.Mathlib.Omega.{arith}
use lib.Dec.{eqb}
use lib.ListN.{length, get_or, take, drop, take-append-drop}
use borrow.Author.Tests.{eq-eqb, ne_eqb}
use Rattle.model.proofs.Booleans.{not-true-false}
use Rattle.decimal.specs.Digits.{space}
use Rattle.decimal.specs.TextValue.{same_text}
use Rattle.decimal.proofs.TextValue.{same_text-true}
use Rattle.answer_lines.specs.Answer.{is_comment, comment_mark, is_marked, value_mark}

-- texts of other lengths are not the same
pub same-lengths : (a b : List ℕ) → (length a ≡ length b → ⊥) → same_text a b ≡ false
same-lengths a b ne = not-true-false (same_text a b) (λ h. ne (ap length (same_text-true a b h)))

-- the first bytes of a line
pub comment-first : (l : List ℕ) → 0 < length l → is_comment l ≡ eqb (get_or l 0 0) comment_mark
comment-first [] h = absurd (omega arith)
comment-first (x ∷ l) h = refl

pub comment-empty : (l : List ℕ) → length l ≤ 0 → is_comment l ≡ false
comment-empty [] h = refl
comment-empty (x ∷ l) h = absurd (omega arith)

pub marked-second : (l : List ℕ) → 1 < length l → get_or l 0 0 ≡ 118 → is_marked l ≡ eqb (get_or l 1 0) space
unfolding same_text
marked-second [] h e = absurd (omega arith)
marked-second (x ∷ []) h e = absurd (omega arith)
marked-second (x ∷ y ∷ l) h e = rw (eq-eqb x 118 e) (and_last (eqb y space))
  where
    and_last : (b : Bool) → (b && true) ≡ b
    and_last true = refl
    and_last false = refl

pub marked_other : (l : List ℕ) → (get_or l 0 0 ≡ 118 → ⊥) → is_marked l ≡ false
unfolding same_text
marked_other [] ne = refl
marked_other (x ∷ l) ne = rw (ne_eqb x 118 ne)

pub marked-short : (l : List ℕ) → length l ≤ 1 → is_marked l ≡ false
marked-short [] h = unfold same_text in refl
marked-short (x ∷ []) h = unfold same_text in (by_first (eqb x 118))
  where
    by_first : (b : Bool) → (b && false) ≡ false
    by_first true = refl
    by_first false = refl
marked-short (x ∷ y ∷ l) h = absurd (omega arith)

-- a line with the mark is the mark and the rest
pub marked-line : (l : List ℕ) → is_marked l ≡ true → l ≡ 118 ∷ space ∷ drop 2 l
marked-line l e = sym (take-append-drop 2 l) ∙ ap (λ (x : List ℕ). x ++ drop 2 l) (same_text-true (take 2 l) value_mark e)

pub marked-length : (l : List ℕ) → is_marked l ≡ true → 2 ≤ length l
marked-length l e = omega (arith, ap length (marked-line l e))
