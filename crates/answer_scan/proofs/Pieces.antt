-- Texts read one behind the other, and the end of a text. No contract cites this file.
use Prim.Native.Nat.{ℕ, zero, suc, ◌<◌}
use mathlib.Core.Path.{◌≡◌, refl, sym, ap, subst, ◌∙◌}
use mathlib.Core.Bool.{false}
use mathlib.Core.List.{List, [], ◌∷◌, ◌++◌, append_assoc, append-nil}
use native.Mathlib.Omega.{arith}
use lib.IntN.{ℤ}
use lib.ListN.{length, take}
use Rattle.text_words.specs.Words.{parts_after, rest_after}
use Rattle.answer_signs.specs.Signs.{SignsOf}
use Rattle.answer_lines.specs.Answer.{Answer, malformed, unsatisfiable, satisfiable, is_empty, kept_lines, status_answer, values_answer, all_value_lines, all_values, answer_of_values, only_last_zero, nothing_more, answer_in, answer_kind}
use Rattle.answer_lines.specs.Progress.{answer_from, after_numbers, MarkedAll}
use Rattle.answer_lines.specs.declared.Progress.{Progress}
use Rattle.answer_lines.specs.declared.Progress.TheVariants.{NoStatus, Values, Complete, Unsatisfiable, Malformed}
use Rattle.answer_lines.proofs.Values.{after_numbers-none, after_numbers-append}
use Rattle.answer_scan.specs.Scan.{answer_ahead, line_begun, LineKept, Taken, ScanBehind}
use Rattle.answer_scan.specs.AnswerRead.{AnswerRead}
use Rattle.answer_scan.specs.declared.Scan.{Scan}

-- one text, then another
marked-then : {xs ys : List ℤ} {old mid new : List ℕ} → MarkedAll xs old mid → MarkedAll ys mid new → MarkedAll (xs ++ ys) old new
marked-then {xs} {ys} {old} {mid} {new} f g zs s =
    subst (λ (zs : List ℤ). SignsOf zs new) (append_assoc zs xs ys) (g (zs ++ xs) (f zs s))

pub taken_then : {p q r : Progress} {a b c s old mid new : List ℕ} (t : List ℕ)
    → Taken p a s q b old mid → Taken q b t r c mid new → Taken p a (s ++ t) r c old new
taken_then {p} {q} {r} {a} {b} {c} {s} t x y =
    record {
      numbers = x.numbers ++ y.numbers;
      marked = marked-then x.marked y.marked;
      goes_on =
          λ u.
          ap (answer_ahead p a) (append_assoc s t u) ∙ x.goes_on (t ++ u) ∙ ap (after_numbers x.numbers) (y.goes_on u)
          ∙ sym (after_numbers-append x.numbers y.numbers (answer_ahead r c u));
    }

-- at the start
pub behind-start : (scan : Scan) → scan.position.progress ≡ NoStatus → scan.position.count ≡ 0 → (signs : List ℕ) → SignsOf [] signs
    → ScanBehind [] scan signs
behind-start scan p z signs s =
    record {
      numbers = [];
      signs-are = s;
      goes_on = λ t. unfold answer_in answer_ahead answer_from in rw (p, z) (sym (after_numbers-none (answer_ahead NoStatus [] t)));
    }

-- behind one text more
pub behind-next : (scan r : Scan) (piece old new : List ℕ)
    → Taken scan.position.progress (line_begun scan.position scan.line) piece r.position.progress (line_begun r.position r.line) old new
    → (seen : List ℕ) → ScanBehind seen scan old → ScanBehind (seen ++ piece) r new
behind-next scan r piece old new x seen b =
    record {
      numbers = b.numbers ++ x.numbers;
      signs-are = x.marked b.numbers b.signs-are;
      goes_on =
          λ t.
          ap answer_in (append_assoc seen piece t) ∙ b.goes_on (piece ++ t) ∙ ap (after_numbers b.numbers) (x.goes_on t)
          ∙ sym
          (after_numbers-append b.numbers x.numbers (answer_ahead r.position.progress (line_begun r.position r.line) t));
    }

-- at the end
module _ {seen signs : List ℕ} (scan : Scan) (b : ScanBehind seen scan signs) where
  whole : answer_in seen ≡ after_numbers b.numbers (answer_ahead scan.position.progress (line_begun scan.position scan.line) [])
  whole = ap answer_in (sym (append-nil seen)) ∙ b.goes_on []

  -- an answer with no numbers, and the one with those that were read
  without : (a : Answer) → answer_in seen ≡ a → ((ys : List ℤ) → a ≡ satisfiable ys → ⊥) → AnswerRead seen signs (answer_kind a)
  without a e n = record { kind-is = ap answer_kind (sym e); signs-are = λ ys s. absurd (n ys (sym e ∙ s)) }

  none : (ys : List ℤ) → malformed ≡ satisfiable ys → ⊥
  none ys e = let z : ◌≡◌ {A = ℕ} 0 1 = cc in omega arith

  none-either : (ys : List ℤ) → unsatisfiable ≡ satisfiable ys → ⊥
  none-either ys e = let z : ◌≡◌ {A = ℕ} 0 1 = cc in omega arith

  -- a line is begun
  pub end-begun : LineKept scan.position scan.line → 0 < scan.position.count → AnswerRead seen signs (answer_kind malformed)
  end-begun h l = without malformed (whole ∙ ap (after_numbers b.numbers) unended ∙ unfold after_numbers in refl) none
    where
      some : (n : ℕ) (line : List ℕ) → 0 < n → length line ≡ 16 → is_empty (take n line) ≡ false
      some zero line l f = absurd (omega arith)
      some (suc n) [] l f = absurd (omega arith)
      some (suc n) (x ∷ line) l f = refl

      unended : answer_ahead scan.position.progress (line_begun scan.position scan.line) [] ≡ malformed
      unended = unfold answer_ahead rest_after in rw (some scan.position.count scan.line l h.full)

  -- none is
  module _ (z : scan.position.count ≡ 0) where
    closed : (p : Progress) → scan.position.progress ≡ p → answer_in seen ≡ after_numbers b.numbers (answer_from p [])
    closed p e = whole ∙ ap (after_numbers b.numbers) (unfold answer_ahead parts_after rest_after kept_lines in rw (z, e))

    -- more lines are due, or it is malformed already
    end-nothing : (p : Progress) → scan.position.progress ≡ p → answer_from p [] ≡ malformed → AnswerRead seen signs (answer_kind malformed)
    end-nothing p e m = without malformed (closed p e ∙ ap (after_numbers b.numbers) m ∙ unfold after_numbers in refl) none

    pub end-no-status : scan.position.progress ≡ NoStatus → AnswerRead seen signs (answer_kind malformed)
    end-no-status e = end-nothing NoStatus e (unfold answer_from status_answer in refl)

    pub end-values : scan.position.progress ≡ Values → AnswerRead seen signs (answer_kind malformed)
    end-values e = end-nothing Values e (unfold answer_from values_answer all_value_lines all_values answer_of_values only_last_zero in refl)

    pub end-malformed : scan.position.progress ≡ Malformed → AnswerRead seen signs (answer_kind malformed)
    end-malformed e = end-nothing Malformed e (unfold answer_from in refl)

    pub end-unsatisfiable : scan.position.progress ≡ Unsatisfiable → AnswerRead seen signs (answer_kind unsatisfiable)
    end-unsatisfiable e = without unsatisfiable (closed Unsatisfiable e ∙ unfold answer_from nothing_more after_numbers in refl) none-either

    pub end-satisfiable : scan.position.progress ≡ Complete → AnswerRead seen signs (answer_kind (satisfiable []))
    end-satisfiable e =
        let is : answer_in seen ≡ satisfiable b.numbers =
        closed Complete e ∙ unfold answer_from nothing_more after_numbers in ap satisfiable (append-nil b.numbers) in
        record {
          kind-is = ap answer_kind (sym is);
          signs-are = λ ys s. subst (λ (zs : List ℤ). SignsOf zs signs) (cc (sym is ∙ s)) b.signs-are;
        }
