-- The text ahead of a line that is begun: a byte that goes on with it, a line feed, and lines of which it does not matter how they begin.
-- No contract cites this file.
use Prim.Native.Nat.{ℕ}
use mathlib.Core.Path.{◌≡◌, refl, sym, ap, ◌∙◌}
use mathlib.Core.Bool.{Bool, true, false, cond, false≢true}
use mathlib.Core.List.{List, [], ◌∷◌, ◌++◌, append_assoc, append-nil}
use lib.Dec.{eqb}
use lib.IntN.{ℤ}
use borrow.Author.Tests.{ne_eqb}
use Rattle.decimal.specs.Digits.{line_feed}
use Rattle.text_words.specs.Words.{parts_after, rest_after}
use Rattle.answer_lines.specs.Answer.{Answer, malformed, is_empty, is_comment, kept_lines}
use Rattle.answer_lines.specs.Progress.{answer_from, after_numbers, LineRead}
use Rattle.answer_lines.specs.declared.Progress.{Progress}
use Rattle.answer_lines.specs.declared.Progress.TheVariants.{Malformed}
use Rattle.answer_lines.proofs.Values.{after_numbers-none}
use Rattle.answer_lines.proofs.Lines.{kept_lines-comment}
use Rattle.answer_scan.specs.Scan.{answer_ahead, SameAhead}

-- a byte that goes on with the line
pub ahead-next : (p : Progress) (begun : List ℕ) (x : ℕ) (t : List ℕ) → (x ≡ line_feed → ⊥)
    → answer_ahead p begun (x ∷ t) ≡ answer_ahead p (begun ++ x ∷ []) t
unfolding answer_ahead parts_after rest_after
ahead-next p begun x t n = rw (ne_eqb x line_feed n)

-- a choice between an answer and none
choice : (b : Bool) (ys : List ℤ) {a : Answer} (a' : Answer) → a ≡ after_numbers ys a' → cond b a malformed ≡ after_numbers ys (cond b a' malformed)
choice true ys a' e = e
choice false ys a' e = unfold after_numbers in refl

choice-malformed : (b : Bool) {a : Answer} → a ≡ malformed → cond b a malformed ≡ malformed
choice-malformed true e = e
choice-malformed false e = refl

-- a line feed
pub ahead-line : {p q : Progress} {begun old new : List ℕ} (x : LineRead p begun q old new) (t : List ℕ)
    → answer_ahead p begun (line_feed ∷ t) ≡ after_numbers x.numbers (answer_ahead q [] t)
unfolding answer_ahead parts_after rest_after
ahead-line {p} {q} x t =
    choice (is_empty (rest_after line_feed [] t)) x.numbers (answer_from q (kept_lines (parts_after line_feed [] t))) (x.goes_on (parts_after line_feed [] t))

-- malformed whatever follows
pub ahead-malformed : (begun t : List ℕ) → answer_ahead Malformed begun t ≡ malformed
unfolding answer_ahead answer_from
ahead-malformed begun t = choice-malformed (is_empty (rest_after line_feed begun t)) refl

snoc-some : (begun : List ℕ) (x : ℕ) → is_empty (begun ++ x ∷ []) ≡ false
snoc-some [] x = refl
snoc-some (y ∷ begun) x = refl

-- a line that makes the answer malformed however it goes on
pub ahead-dead : (p : Progress) (begun t : List ℕ) → is_empty begun ≡ false
    → ((r : List ℕ) (ls : List (List ℕ)) → answer_from p (kept_lines ((begun ++ r) ∷ ls)) ≡ malformed) → answer_ahead p begun t ≡ malformed
unfolding answer_ahead parts_after rest_after
ahead-dead p begun [] some dead = rw some
ahead-dead p begun (x ∷ t) some dead = by_byte (eqb x line_feed) (ahead-dead p (begun ++ x ∷ []) t (snoc-some begun x) (later dead))
  where
    later : ((r : List ℕ) (ls : List (List ℕ)) → answer_from p (kept_lines ((begun ++ r) ∷ ls)) ≡ malformed)
        → (r : List ℕ) (ls : List (List ℕ)) → answer_from p (kept_lines (((begun ++ x ∷ []) ++ r) ∷ ls)) ≡ malformed
    later dead r ls = ap (λ (l : List ℕ). answer_from p (kept_lines (l ∷ ls))) (append_assoc begun (x ∷ []) r) ∙ dead (x ∷ r) ls

    by_byte : (b : Bool) → answer_ahead p (begun ++ x ∷ []) t ≡ malformed
        → cond (is_empty (cond b (rest_after line_feed [] t) (rest_after line_feed (begun ++ x ∷ []) t)))
        (answer_from p (kept_lines (cond b (begun ∷ parts_after line_feed [] t) (parts_after line_feed (begun ++ x ∷ []) t)))) malformed ≡ malformed
    by_byte true ih =
        choice-malformed (is_empty (rest_after line_feed [] t))
        (ap (λ (l : List ℕ). answer_from p (kept_lines (l ∷ parts_after line_feed [] t))) (sym (append-nil begun)) ∙ dead [] (parts_after line_feed [] t))
    by_byte false ih = ih

-- two lines begun that go on alike
pub ahead-alike : (p q : Progress) (ys : List ℤ) (a b t : List ℕ) → is_empty a ≡ false → is_empty b ≡ false
    → ((r : List ℕ) (ls : List (List ℕ)) → answer_from p (kept_lines ((a ++ r) ∷ ls)) ≡ after_numbers ys (answer_from q (kept_lines ((b ++ r) ∷ ls))))
    → answer_ahead p a t ≡ after_numbers ys (answer_ahead q b t)
unfolding answer_ahead parts_after rest_after after_numbers
ahead-alike p q ys a b [] some-a some-b alike = rw (some-a, some-b)
ahead-alike p q ys a b (x ∷ t) some-a some-b alike =
    by_byte (eqb x line_feed) (ahead-alike p q ys (a ++ x ∷ []) (b ++ x ∷ []) t (snoc-some a x) (snoc-some b x) later)
  where
    later : (r : List ℕ) (ls : List (List ℕ))
        → answer_from p (kept_lines (((a ++ x ∷ []) ++ r) ∷ ls)) ≡ after_numbers ys (answer_from q (kept_lines (((b ++ x ∷ []) ++ r) ∷ ls)))
    later r ls = rw (append_assoc a (x ∷ []) r, append_assoc b (x ∷ []) r) (alike (x ∷ r) ls)

    by_byte : (e : Bool) → answer_ahead p (a ++ x ∷ []) t ≡ after_numbers ys (answer_ahead q (b ++ x ∷ []) t)
        → cond (is_empty (cond e (rest_after line_feed [] t) (rest_after line_feed (a ++ x ∷ []) t)))
        (answer_from p (kept_lines (cond e (a ∷ parts_after line_feed [] t) (parts_after line_feed (a ++ x ∷ []) t)))) malformed
        ≡ after_numbers ys
        (cond (is_empty (cond e (rest_after line_feed [] t) (rest_after line_feed (b ++ x ∷ []) t)))
        (answer_from q (kept_lines (cond e (b ∷ parts_after line_feed [] t) (parts_after line_feed (b ++ x ∷ []) t)))) malformed)
    by_byte true ih =
        choice (is_empty (rest_after line_feed [] t)) ys (answer_from q (kept_lines (b ∷ parts_after line_feed [] t)))
        (rw (append-nil a, append-nil b) at (alike [] (parts_after line_feed [] t)))
    by_byte false ih = ih

-- a comment goes on as a comment
comment-append : (a r : List ℕ) → is_comment a ≡ true → is_comment (a ++ r) ≡ true
comment-append [] r e = absurd (false≢true e)
comment-append (x ∷ a) r e = e

comment-some : (a : List ℕ) → is_comment a ≡ true → is_empty a ≡ false
comment-some [] e = absurd (false≢true e)
comment-some (x ∷ a) e = refl

pub ahead-comment : (p : Progress) (begun : List ℕ) (x : ℕ) → (x ≡ line_feed → ⊥) → is_comment begun ≡ true → SameAhead p begun (x ∷ []) p begun
ahead-comment p begun x n c t =
    ahead-next p begun x t n
    ∙ ahead-alike p p [] (begun ++ x ∷ []) begun t (snoc-some begun x) (comment-some begun c)
    (λ r ls.
    ap (answer_from p)
    (kept_lines-comment ((begun ++ x ∷ []) ++ r) ls (comment-append (begun ++ x ∷ []) r (comment-append begun (x ∷ []) c))
    ∙ sym (kept_lines-comment (begun ++ r) ls (comment-append begun r c)))
    ∙ sym (after_numbers-none (answer_from p (kept_lines ((begun ++ r) ∷ ls)))))
    ∙ after_numbers-none (answer_ahead p begun t)
