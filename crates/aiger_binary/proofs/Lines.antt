-- Lines at the start of a file (proofs/BinaryFile.antt): which there are, and what stands behind them. No contract cites this file.
use Prim.Native.Nat.{ℕ, zero, suc, ◌+◌}
use mathlib.Core.Path.{◌≡◌, refl, sym, ◌∙◌, ap}
use mathlib.Core.List.{List, [], ◌∷◌, ◌++◌, append_assoc}
use native.Mathlib.Nat.{add-zero, add-suc}
use native.Mathlib.Numerals.{add-one}
use native.Mathlib.Omega.{arith}
use lib.ListN.{length, length-append, get_or}
use lib.Seq.{get_or-append-add}
use borrow.Author.Tests.{ne_eqb}
use Rattle.model.specs.Gather.{gather}
use Rattle.decimal.specs.Digits.{line_feed}
use Rattle.text_words.specs.Words.{lines_of, Without}
use Rattle.text_words.proofs.Words.{parts_first}
use Rattle.aiger_binary.proofs.BinaryFile.{behind_line, behind_lines}

-- what stands behind a line
behind-line : (x s : List ℕ) → Without line_feed x → behind_line (x ++ line_feed ∷ s) ≡ s
unfolding behind_line
behind-line [] s w = refl
behind-line (y ∷ x) s w = rw (ne_eqb y line_feed (λ h. w 0 (omega arith) h)) (behind-line x s (λ i l h. w (suc i) (omega arith) h))

-- and behind so many more
behind_more : (k j : ℕ) (s : List ℕ) → behind_lines (k + j) s ≡ behind_lines j (behind_lines k s)
unfolding behind_lines
behind_more k zero s = rw (add-zero k)
behind_more k (suc j) s = rw (add-suc k j) (ap behind_line (behind_more k j s))

-- a text that is k lines, whatever stands behind it
pub record Lines (k : ℕ) (text : List ℕ) : Type 0 where
  pub lines : List (List ℕ)
  pub count : length lines ≡ k
  pub split : (rest : List ℕ) → lines_of (text ++ rest) ≡ lines ++ lines_of rest
  pub behind : (rest : List ℕ) → behind_lines k (text ++ rest) ≡ rest

pub one_line : (x : List ℕ) → Without line_feed x → Lines 1 (x ++ line_feed ∷ [])
unfolding behind_lines
one_line x w =
    record {
      lines = x ∷ [];
      count = refl;
      split = λ rest. rw (append_assoc x (line_feed ∷ []) rest) (parts_first line_feed x rest w);
      behind = λ rest. rw (append_assoc x (line_feed ∷ []) rest) (behind-line x rest w);
    }

pub lines-append : {k j : ℕ} {s t : List ℕ} → Lines k s → Lines j t → Lines (k + j) (s ++ t)
lines-append {k} {j} {s} {t} a b =
    record {
      lines = a.lines ++ b.lines;
      count = rw (length-append a.lines b.lines, a.count, b.count);
      split = λ rest.
          rw (append_assoc s t rest, append_assoc a.lines b.lines (lines_of rest))
          (a.split (t ++ rest) ∙ ap (λ (xs : List (List ℕ)). a.lines ++ xs) (b.split rest));
      behind = λ rest. rw (append_assoc s t rest) (behind_more k j (s ++ (t ++ rest)) ∙ ap (behind_lines j) (a.behind (t ++ rest)) ∙ b.behind rest);
    }

pub no_line : Lines 0 []
unfolding behind_lines
no_line = record { lines = []; count = refl; split = λ rest. refl; behind = λ rest. refl }

pub lines-gather : (n : ℕ) (f : ℕ → List ℕ) → ((t : ℕ) → Lines 1 (f t)) → Lines n (gather n f)
unfolding gather
lines-gather zero f each = no_line
lines-gather (suc n) f each =
    rw (add-one n) at (lines-append (lines-gather n f each) (each n))

-- the line behind k of them
pub line-at : {k : ℕ} {s : List ℕ} → Lines k s → (x rest text : List ℕ) → Without line_feed x → text ≡ s ++ (x ++ line_feed ∷ rest)
    → get_or (lines_of text) k [] ≡ x
line-at {k} {s} a x rest text w e =
    let index : k ≡ length a.lines + 0 = rw a.count (sym (add-zero k)) in
    rw (e, a.split (x ++ line_feed ∷ rest), parts_first line_feed x rest w, index) (get_or-append-add a.lines (x ∷ lines_of rest) 0 [])
