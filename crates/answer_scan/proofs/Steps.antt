-- What each byte does to a scan: a number ended, a byte added to the line, a line ended, a comment gone on with. No contract cites this file.
use Prim.Native.Nat.{ℕ, ◌+◌, ◌≤◌, ◌<◌}
use mathlib.Core.Path.{◌≡◌, refl, sym, subst, ap, ◌∙◌}
use mathlib.Core.Bool.{Bool, true, false, true≢false, false≢true}
use mathlib.Core.List.{List, [], ◌∷◌, ◌++◌, append_assoc}
use native.Mathlib.Numerals.{add-one}
use native.Mathlib.Omega.{arith}
use lib.Dec.{ltb}
use lib.IntN.{ℤ}
use lib.ListN.{length, take, drop, set, length-append, length-drop, length-set, get_or-append}
use lib.Seq.{take-append-le, drop-append-le, get_or-append_seam, length-take-le, take-suc-set, take-take}
use borrow.Author.Tests.{ltb-true, ltb-false}
use Rattle.decimal.specs.Digits.{space, line_feed}
use Rattle.decimal.specs.SignedValue.{clause_number_in}
use Rattle.text_words.specs.Words.{Without}
use Rattle.answer_lines.specs.Answer.{malformed, is_empty, is_marked, kept_lines, values_answer}
use Rattle.answer_lines.specs.Progress.{answer_from, after_numbers, number_by, MarkedAll, NumberRead, LineRead, OneNumber}
use Rattle.answer_lines.specs.declared.Progress.{Progress}
use Rattle.answer_lines.specs.declared.Progress.TheVariants.{NoStatus, Values, Complete, Unsatisfiable, Malformed}
use Rattle.answer_lines.proofs.Texts.{marked-line, marked-length}
use Rattle.answer_lines.proofs.Values.{after_numbers-none}
use Rattle.answer_lines.proofs.Lines.{same-signs}
use Rattle.answer_scan.specs.Scan.{answer_ahead, is_values, line_begun, LineKept, Taken, SameAhead, NumberEnded, Addable}
use Rattle.answer_scan.specs.declared.Position.{Position}
use Rattle.answer_scan.proofs.Ahead.{ahead-next, ahead-line, ahead-malformed, ahead-dead, ahead-alike}
use Rattle.answer_scan.proofs.Dead.{marked-elsewhere, number-kept, number-dead, long-dead}

-- the position in a malformed answer
abbrev stopped : Position
stopped = record { progress = Malformed; count = 0 }

-- a space behind `v w`
module _ (w : List ℕ) where
  abbrev begun : List ℕ
  begun = 118 ∷ space ∷ w

  ended-malformed : (p : Progress) (zs : List ℤ) {old new : List ℕ} → MarkedAll zs old new
      → ((r : List ℕ) (ls : List (List ℕ)) → answer_from p (kept_lines (((begun ++ space ∷ []) ++ r) ∷ ls)) ≡ malformed)
      → NumberEnded p begun stopped old new
  ended-malformed p zs m dead =
      record {
        short = omega arith;
        taken =
            record {
              numbers = zs;
              marked = m;
              goes_on =
                  λ t.
                  ahead-next p begun space t (λ e. omega arith) ∙ ahead-dead p (begun ++ space ∷ []) t refl dead
                  ∙ unfold after_numbers in sym (ap (after_numbers zs) (ahead-malformed [] t));
            };
      }

  elsewhere : (p : Progress) {table : List ℕ} → is_values p ≡ false → NumberEnded p begun stopped table table
  elsewhere p {table} v = ended-malformed p [] (same-signs table) (λ r ls. marked-elsewhere p (space ∷ (w ++ space ∷ [])) v r ls)

  module _ (one : Without space w) {q : Progress} {old new : List ℕ} (x : NumberRead (clause_number_in w) q old new) where
    -- the line as `number-kept` and `number-dead` have it
    whole : (r : List ℕ) (ls : List (List ℕ))
        → answer_from Values (kept_lines (((begun ++ space ∷ []) ++ r) ∷ ls)) ≡ values_answer ((118 ∷ space ∷ (w ++ space ∷ r)) ∷ kept_lines ls)
    unfolding answer_from kept_lines
    whole r ls = ap (λ (l : List ℕ). values_answer ((118 ∷ space ∷ l) ∷ kept_lines ls)) (append_assoc w (space ∷ []) r)

    dead : is_values q ≡ false → NumberEnded Values begun stopped old new
    dead v =
        ended-malformed Values (number_by (clause_number_in w)) x.marked
        (λ r ls. whole r ls ∙ number-dead w r (kept_lines ls) one (clause_number_in w) refl (rw x.progress-is at v))

    keeps : is_values q ≡ true → NumberEnded Values begun (record { progress = Values; count = 2 }) old new
    keeps v =
        record {
          short = omega arith;
          taken =
              record {
                numbers = number_by (clause_number_in w);
                marked = x.marked;
                goes_on =
                    λ t.
                    ahead-next Values begun space t (λ e. omega arith)
                    ∙ ahead-alike Values Values (number_by (clause_number_in w)) (begun ++ space ∷ []) (118 ∷ space ∷ []) t refl refl
                    (λ r ls.
                    whole r ls ∙ number-kept w r (kept_lines ls) one (clause_number_in w) refl (rw x.progress-is at v)
                    ∙ unfold answer_from kept_lines in refl);
              };
        }

-- the same of a line that is begun
module _ (l : List ℕ) (m : is_marked l ≡ true) where
  as_line : {p : Progress} {r : Position} {old new : List ℕ} → NumberEnded p (begun (drop 2 l)) r old new → NumberEnded p l r old new
  as_line {p} {r} {old} {new} x = subst (λ (l : List ℕ). NumberEnded p l r old new) (sym (marked-line l m)) x

  pub number-elsewhere : (p : Progress) {table : List ℕ} → is_values p ≡ false → NumberEnded p l stopped table table
  number-elsewhere p v = as_line (elsewhere (drop 2 l) p v)

  module _ (one : OneNumber l) {q : Progress} {old new : List ℕ} (x : NumberRead (clause_number_in (drop 2 l)) q old new) where
    pub number-malformed : is_values q ≡ false → NumberEnded Values l stopped old new
    number-malformed v = as_line (dead (drop 2 l) (one m) x v)

    pub number_read : is_values q ≡ true → NumberEnded Values l (record { progress = Values; count = 2 }) old new
    number_read v = as_line (keeps (drop 2 l) (one m) x v)

-- a line of at most two bytes has no number yet
pub one-short : (l : List ℕ) → length l ≤ 2 → OneNumber l
one-short l h m i k e = omega (arith, rw length-drop at k)

pub holds-short : {at : Position} {line : List ℕ} (r : Position) → LineKept at line → r.count ≤ 2 → LineKept r line
holds-short {at} {line} r h s =
    record {
      full = h.full;
      within = omega arith;
      one_number = one-short (take r.count line) (omega (arith, length-take-le r.count line (omega (arith, h.full)), h.full));
    }

-- one byte more that ends nothing
one_more : (l : List ℕ) (x : ℕ) → OneNumber l → (x ≡ space → is_marked l ≡ false) → OneNumber (l ++ x ∷ [])
one_more l x one n m = by_length (ltb (length l) 2) refl
  where
    without-next : (s : List ℕ) → Without space s → (x ≡ space → ⊥) → Without space (s ++ x ∷ [])
    without-next s w n i k e = by_place (ltb i (length s)) refl
      where
        by_place : (b : Bool) → ltb i (length s) ≡ b → ⊥
        by_place true b = w i (ltb-true i (length s) b) (sym (get_or-append s (x ∷ []) 0 i (ltb-true i (length s) b)) ∙ e)
        by_place false b =
            let here : i ≡ length s = omega (arith, ltb-false i (length s) b, rw length-append at k) in
            n (sym (get_or-append_seam s x [] 0) ∙ rw here at e)

    by_length : (b : Bool) → ltb (length l) 2 ≡ b → Without space (drop 2 (l ++ x ∷ []))
    by_length true b = λ i k e. omega (arith, simp (length-drop, length-append) at k, ltb-true (length l) 2 b)
    by_length false b =
        let long : 2 ≤ length l = ltb-false (length l) 2 b in
        let marked : is_marked l ≡ true = rw (take-append-le 2 l (x ∷ []) long) at m in
        rw (drop-append-le 2 l (x ∷ []) long)
        (without-next (drop 2 l) (one marked) (λ e. true≢false (sym marked ∙ n e)))

module _ (at : Position) (line : List ℕ) (byte : ℕ) (h : LineKept at line) (a : Addable (line_begun at line) byte) where
  -- room for it
  added : at.count < 16 → take (at.count + 1) (set line at.count byte) ≡ line_begun at line ++ byte ∷ []
  added l = rw add-one (take-suc-set line at.count byte (omega (arith, h.full)))

  pub byte-holds : at.count < 16 → LineKept (record { progress = at.progress; count = at.count + 1 }) (set line at.count byte)
  byte-holds l =
      record {
        full = simp length-set h.full;
        within = omega arith;
        one_number = rw (added l) (one_more (line_begun at line) byte h.one_number a.no_end);
      }

  pub byte-added : at.count < 16
      → SameAhead at.progress (line_begun at line) (byte ∷ []) at.progress (take (at.count + 1) (set line at.count byte))
  byte-added l t = rw (added l) (ahead-next at.progress (line_begun at line) byte t a.no-line-feed)

  -- none
  pub byte-too-many : 16 ≤ at.count → SameAhead at.progress (line_begun at line) (byte ∷ []) Malformed []
  byte-too-many l t =
      let long : 16 ≤ length (line_begun at line) = omega (arith, length-take-le at.count line (omega (arith, h.full, h.within))) in
      ahead-dead at.progress (line_begun at line) (byte ∷ t) (some (line_begun at line) long)
      (long-dead (line_begun at line) long a.no-comment h.one_number at.progress) ∙ sym (ahead-malformed [] t)
    where
      some : (l : List ℕ) → 16 ≤ length l → is_empty l ≡ false
      some [] h = absurd (omega arith)
      some (x ∷ l) h = refl

-- nothing taken is nothing marked
pub passed-taken : {p q : Progress} {begun s next table : List ℕ} → SameAhead p begun s q next → Taken p begun s q next table table
passed-taken {q = q} {next = next} {table = table} x =
    record { numbers = []; marked = same-signs table; goes_on = λ t. x t ∙ sym (after_numbers-none (answer_ahead q next t)) }

-- a line feed, and a byte of a comment
pub line_taken : {p q : Progress} {begun old new : List ℕ} → LineRead p begun q old new → Taken p begun (line_feed ∷ []) q [] old new
line_taken x = record { numbers = x.numbers; marked = x.marked; goes_on = ahead-line x }

-- what is kept of a line behind a number
pub number-taken : {p : Progress} {at r : Position} {line old new : List ℕ} → LineKept at line → is_marked (line_begun at line) ≡ true
    → NumberEnded p (line_begun at line) r old new → Taken p (line_begun at line) (space ∷ []) r.progress (line_begun r line) old new
number-taken {p} {at} {r} {line} {old} {new} h m x =
    let kept : 2 ≤ length (take at.count line) = marked-length (take at.count line) m in
    subst (λ (l : List ℕ). Taken p (line_begun at line) (space ∷ []) r.progress l old new)
    (take-take r.count at.count line (omega (arith, x.short, length-take-le at.count line (omega (arith, h.full, h.within))))) x.taken

-- value lines are read
pub values-is : (p : Progress) → is_values p ≡ true → p ≡ Values
values-is NoStatus e = absurd (false≢true e)
values-is Values e = refl
values-is Complete e = absurd (false≢true e)
values-is Unsatisfiable e = absurd (false≢true e)
values-is Malformed e = absurd (false≢true e)
