-- Laws of specs/Letters.antt: a letter and its kind, and the rule of a table of fields. No contract cites this file.
use Prim.Native.Nat.{ℕ, zero, suc, ◌<◌}
use mathlib.Core.Path.{◌≡◌, refl, sym, ap, ◌∙◌}
use mathlib.Core.Bool.{Bool, true, false, cond, ◌&&◌, false≢true}
use mathlib.Core.List.{List, [], ◌∷◌}
use mathlib.Core.Logic.{⊎_elim}
use native.Mathlib.Nat.{eq-or-lt_of_le, le_of_suc-le-suc}
use native.Mathlib.Omega.{arith}
use borrow.Author.Tests.{eqb-true}
use lib.Dec.{eqb}
use lib.ListN.{get_or}
use Rattle.model.proofs.Booleans.{and-true}
use Rattle.sheet_lines.specs.Letters.{kinds, letter_of, kind_among, kind_of, row_of, is_known, content_of, ContentsAsPrinted}
use Rattle.sheet_lines.specs.declared.Kind.{Kind}
use Rattle.sheet_lines.specs.declared.Kind.TheVariants.{Sizes, Memory, TwoPorts, Latch, Gate, Address, WriteData, SecondAddress, SecondEnable, Control, Unknown}

-- a known kind that is found by a letter has this letter
letter_of-kind_among : (c : ℕ) (ks : List Kind) → is_known (kind_among ks c) ≡ true → letter_of (kind_among ks c) ≡ c
letter_of-kind_among c [] h = absurd (false≢true h)
letter_of-kind_among c (k ∷ ks) h = by-test (eqb c (letter_of k)) refl (letter_of-kind_among c ks) h
  where
    by-test :
        (b : Bool) → eqb c (letter_of k) ≡ b → (is_known (kind_among ks c) ≡ true → letter_of (kind_among ks c) ≡ c) →
        is_known (cond b k (kind_among ks c)) ≡ true → letter_of (cond b k (kind_among ks c)) ≡ c
    by-test true e other h = sym (eqb-true c (letter_of k) e)
    by-test false e other h = other h

-- a letter of a known line is that line's letter
pub letter_of-kind_of : (c : ℕ) → is_known (kind_of c) ≡ true → letter_of (kind_of c) ≡ c
unfolding kind_of
letter_of-kind_of c h = letter_of-kind_among c kinds h

-- and back
pub kind_of-letter_of : (k : Kind) → is_known k ≡ true → kind_of (letter_of k) ≡ k
unfolding kind_of
kind_of-letter_of Sizes h = refl
kind_of-letter_of Memory h = refl
kind_of-letter_of TwoPorts h = refl
kind_of-letter_of Latch h = refl
kind_of-letter_of Gate h = refl
kind_of-letter_of Address h = refl
kind_of-letter_of WriteData h = refl
kind_of-letter_of SecondAddress h = refl
kind_of-letter_of SecondEnable h = refl
kind_of-letter_of Control h = refl
kind_of-letter_of Unknown h = absurd (false≢true h)

-- a test passed at every number below n
abbrev pub every : ℕ → (ℕ → Bool) → Bool
every zero f = true
every (suc n) f = f n && every n f

every-at : (n : ℕ) (f : ℕ → Bool) → every n f ≡ true → (i : ℕ) → i < n → f i ≡ true
every-at zero f h i l = absurd (omega arith)
every-at (suc n) f h i l =
    let p : (f n ≡ true) × (every n f ≡ true) = (and-true (f n) (every n f)).0 h in
    ⊎_elim (λ (e : i ≡ n). rw e p.0) (λ (b : i < n). every-at n f p.1 i b) (eq-or-lt_of_le (le_of_suc-le-suc l))

pub kind-at-row : (k : Kind) → get_or kinds (row_of k) Unknown ≡ k
kind-at-row Sizes = refl
kind-at-row Memory = refl
kind-at-row TwoPorts = refl
kind-at-row Latch = refl
kind-at-row Gate = refl
kind-at-row Address = refl
kind-at-row WriteData = refl
kind-at-row SecondAddress = refl
kind-at-row SecondEnable = refl
kind-at-row Control = refl
kind-at-row Unknown = refl

-- whether an entry of a table says what the rule says, and whether all 30 do
abbrev pub entry-right : List (List ℕ) → ℕ → ℕ → Bool
entry-right table row column =
    eqb (get_or (get_or table row []) column 0) (content_of (get_or kinds row Unknown) column)

abbrev pub table-right : List (List ℕ) → Bool
table-right table = every 10 (λ row. every 3 (entry-right table row))

-- a table that passes that one test says at every row and column what the rule says
pub table-follows : (table : List (List ℕ)) → table-right table ≡ true → ContentsAsPrinted table
unfolding ContentsAsPrinted
table-follows table right k column l c =
    let at_row : every 3 (entry-right table (row_of k)) ≡ true = every-at 10 (λ row. every 3 (entry-right table row)) right (row_of k) l in
    let at-column : entry-right table (row_of k) column ≡ true = every-at 3 (entry-right table (row_of k)) at_row column c in
    eqb-true _ _ at-column ∙ ap (λ (k : Kind). content_of k column) (kind-at-row k)

-- what such a table says at the row of a kind
pub content-at :
    (table : List (List ℕ)) → ContentsAsPrinted table → (k : Kind) (row column : ℕ) → row ≡ row_of k → row_of k < 10 → column < 3 →
    get_or (get_or table row []) column 0 ≡ content_of k column
unfolding ContentsAsPrinted
content-at table rule k row column e l c = rw e (rule k column l c)
