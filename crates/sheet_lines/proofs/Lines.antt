-- Laws of specs/Lines.antt: the tests of a line, one by one; what is read is the text of the line (`line_text-line_of`), and what is
-- written reads back (`line_of-line_text`). No contract cites this file.
use Prim.Native.Nat.{ℕ, ◌+◌, ◌^◌, ◌<◌}
use mathlib.Core.Path.{◌≡◌, refl, sym, ap, ap₂, ◌∙◌}
use mathlib.Core.Bool.{Bool, true, false, cond, ◌&&◌, ◌||◌, false≢true}
use mathlib.Core.Logic.{◌⊎◌, inl, inr, ⊎_elim}
use mathlib.Core.List.{List, [], ◌∷◌, ◌++◌, append_assoc}
use native.Mathlib.Omega.{arith}
use borrow.Author.Tests.{eq-eqb, ne_eqb, eqb-true}
use lib.Dec.{eqb, ltb}
use lib.ListN.{length, get_or, take, drop, take-append-drop, drop_of_length-le, length-append, length-take, length-drop}
use lib.Seq.{drop-cons, drop-drop, take_at, drop_at, get_or_at}
use Rattle.decimal.specs.Digits.{line_feed}
use Rattle.decimal.proofs.Digits.{length-field}
use Rattle.model.proofs.Booleans.{and-true, or-true}
use Rattle.sheet_fields.specs.Fields.{field_of}
use Rattle.sheet_fields.specs.declared.Field.{Field}
use Rattle.sheet_fields.specs.declared.Field.TheVariants.{Empty, Filled, Misprinted}
use Rattle.sheet_fields.proofs.Fields.{field_of-field, field_of-empty, field-field_of, empty-field_of}
use Rattle.sheet_lines.specs.Letters.{letter_of, kind_of, is_known, is_memory, numbers_in, content_of}
use Rattle.sheet_lines.specs.Lines.{field_in, as_wanted, all_as_wanted, value_of, left_empty, line_with, line_of, printed_field, field_text, line_text, LinesAsWritten}
use Rattle.sheet_lines.specs.declared.Kind.{Kind}
use Rattle.sheet_lines.specs.declared.Kind.TheVariants.{Sizes, Memory, TwoPorts, Latch, Gate, Address, WriteData, SecondAddress, SecondEnable, Control, Unknown}
use Rattle.sheet_lines.specs.declared.ParsedLine.TheVariants.{Misprint, Read}
use Rattle.sheet_lines.proofs.Letters.{letter_of-kind_of, kind_of-letter_of}

-- a field that is not to be either is not left empty
pub left-firm : (w : ℕ) (f : Field) → (w ≡ 2 → ⊥) → left_empty w f ≡ 0
left-firm w Empty n = rw (ne_eqb w 2 n)
left-firm w (Filled x) n = refl
left-firm w Misprinted n = refl

-- a line by the outcomes of its four tests: the letter, and each field
pub line_with-tests :
    (k : Kind) (a b c : Field) (known first second third : Bool) → is_known k ≡ known → as_wanted (content_of k 0) a ≡ first →
    as_wanted (content_of k 1) b ≡ second → as_wanted (content_of k 2) c ≡ third →
    line_with k a b c
    ≡ cond (known && (first && second && third)) (Read k (value_of a) (value_of b) (value_of c) (left_empty (content_of k 2) c)) Misprint
unfolding line_with all_as_wanted
line_with-tests k a b c known first second third e₀ e₁ e₂ e₃ = rw (e₀, e₁, e₂, e₃)

-- 32 bytes and a line feed: the letter and the fields decide
pub line_of-fields :
    (s : List ℕ) → length s ≡ 32 → get_or s 31 0 ≡ line_feed →
    line_of s ≡ line_with (kind_of (get_or s 0 0)) (field_in s 0) (field_in s 1) (field_in s 2)
unfolding line_of
line_of-fields s l f = rw (eq-eqb (length s) 32 l, eq-eqb (get_or s 31 0) line_feed f)

-- another length, and no line feed, are misprints
pub line_of-length : (s : List ℕ) → (length s ≡ 32 → ⊥) → line_of s ≡ Misprint
unfolding line_of
line_of-length s n = rw (ne_eqb (length s) 32 n)

pub line_of-no-feed : (s : List ℕ) → length s ≡ 32 → (get_or s 31 0 ≡ line_feed → ⊥) → line_of s ≡ Misprint
unfolding line_of
line_of-no-feed s l n = rw (eq-eqb (length s) 32 l, ne_eqb (get_or s 31 0) line_feed n)

-- one of two numbers
one_of : (w i j : ℕ) → (eqb w i || eqb w j) ≡ true → (w ≡ i) ⊎ (w ≡ j)
one_of w i j h =
    ⊎_elim (λ (e : eqb w i ≡ true). inl (eqb-true w i e)) (λ (e : eqb w j ≡ true). inr (eqb-true w j e)) ((or-true (eqb w i) (eqb w j)).0 h)

-- ten columns that are as wanted are the text of what is read there
column-text :
    (w : ℕ) (f : List ℕ) → length f ≡ 10 → as_wanted w (field_of f) ≡ true →
    f ≡ field_text (printed_field w (left_empty w (field_of f)) (value_of (field_of f)))
column-text w f l h = by_field (field_of f) refl h
  where
    by_field : (r : Field) → field_of f ≡ r → as_wanted w r ≡ true → f ≡ field_text (printed_field w (left_empty w r) (value_of r))
    by_field Empty e h = ⊎_elim (λ (p : w ≡ 0). rw p (empty-field_of f l e)) (λ (p : w ≡ 2). rw p (empty-field_of f l e)) (one_of w 0 2 h)
    by_field (Filled x) e h =
        ⊎_elim (λ (p : w ≡ 1). rw p (field-field_of f x l e).0) (λ (p : w ≡ 2). rw p (field-field_of f x l e).0) (one_of w 1 2 h)
    by_field Misprinted e h = absurd (false≢true h)

-- the first two fields are of one content for each letter: whether the third is left empty is nothing to them
firm : (k : Kind) (d e x : ℕ) → (printed_field (content_of k 0) d x ≡ printed_field (content_of k 0) e x) × (printed_field (content_of k 1) d x ≡ printed_field (content_of k 1) e x)
unfolding content_of
firm Sizes d e x = (refl, refl)
firm Memory d e x = (refl, refl)
firm TwoPorts d e x = (refl, refl)
firm Latch d e x = (refl, refl)
firm Gate d e x = (refl, refl)
firm Address d e x = (refl, refl)
firm WriteData d e x = (refl, refl)
firm SecondAddress d e x = (refl, refl)
firm SecondEnable d e x = (refl, refl)
firm Control d e x = (refl, refl)
firm Unknown d e x = (refl, refl)

-- 32 bytes are a letter, three parts of ten, and one byte more
line-parts :
    (s : List ℕ) → length s ≡ 32 →
    s ≡ get_or s 0 0 ∷ take 10 (drop 1 s) ++ take 10 (drop 11 s) ++ take 10 (drop 21 s) ++ get_or s 31 0 ∷ []
line-parts s l =
    let last : drop 31 s ≡ get_or s 31 0 ∷ [] =
    drop-cons s 31 0 (omega arith) ∙ ap (λ (t : List ℕ). get_or s 31 0 ∷ t) (drop_of_length-le s {i = 32} (omega arith)) in
    let grouped :
    take 10 (drop 1 s) ++ take 10 (drop 11 s) ++ take 10 (drop 21 s) ++ get_or s 31 0 ∷ []
    ≡ take 10 (drop 1 s) ++ (take 10 (drop 11 s) ++ (take 10 (drop 21 s) ++ (get_or s 31 0 ∷ []))) =
    simp append_assoc in
    drop-cons s 0 0 (omega arith)
    ∙ ap (λ (t : List ℕ). get_or s 0 0 ∷ t) (part 1 (part 11 (part 21 last)) ∙ sym grouped)
  where
    part : (n : ℕ) {rest : List ℕ} → drop (n + 10) s ≡ rest → drop n s ≡ take 10 (drop n s) ++ rest
    part n h =
        sym (take-append-drop 10 (drop n s)) ∙ ap (λ (t : List ℕ). take 10 (drop n s) ++ t) (drop-drop 10 n s ∙ h)

-- what the tests of a line that is read have found
record IsLine (k : Kind) (f g h : Field) (a b c e : ℕ) : Type 0 where
  known : is_known k ≡ true
  first : as_wanted (content_of k 0) f ≡ true
  second : as_wanted (content_of k 1) g ≡ true
  third : as_wanted (content_of k 2) h ≡ true
  first-is : value_of f ≡ a
  second_is : value_of g ≡ b
  third-is : value_of h ≡ c
  empty-is : left_empty (content_of k 2) h ≡ e

line_with-read : (k l : Kind) (f g h : Field) (a b c e : ℕ) → line_with k f g h ≡ Read l a b c e → (k ≡ l) × IsLine k f g h a b c e
unfolding line_with all_as_wanted
line_with-read k l f g h a b c e = by_tests (is_known k && all_as_wanted k f g h) refl
  where
    by_tests :
        (t : Bool) → (is_known k && all_as_wanted k f g h) ≡ t →
        cond t (Read k (value_of f) (value_of g) (value_of h) (left_empty (content_of k 2) h)) Misprint ≡ Read l a b c e →
        (k ≡ l) × IsLine k f g h a b c e
    by_tests true t is =
        let p = (and-true (is_known k) (all_as_wanted k f g h)).0 t in
        let q = (and-true (as_wanted (content_of k 0) f && as_wanted (content_of k 1) g) (as_wanted (content_of k 2) h)).0 p.1 in
        let r = (and-true (as_wanted (content_of k 0) f) (as_wanted (content_of k 1) g)).0 q.0 in (
          cc,
          record { known = p.0; first = r.0; second = r.1; third = q.1; first-is = cc; second_is = cc; third-is = cc; empty-is = cc },
        )
    by_tests false t is = let z : ◌≡◌ {A = ℕ} 0 1 = cc in absurd (omega arith)

-- what the length and the last byte of a line that is read are
line_of-read :
    (s : List ℕ) (k : Kind) (a b c e : ℕ) → line_of s ≡ Read k a b c e →
    (length s ≡ 32) × (get_or s 31 0 ≡ line_feed)
    × (line_with (kind_of (get_or s 0 0)) (field_in s 0) (field_in s 1) (field_in s 2) ≡ Read k a b c e)
unfolding line_of
line_of-read s k a b c e = by_tests (eqb (length s) 32 && eqb (get_or s 31 0) line_feed) refl
  where
    by_tests :
        (t : Bool) → (eqb (length s) 32 && eqb (get_or s 31 0) line_feed) ≡ t →
        cond t (line_with (kind_of (get_or s 0 0)) (field_in s 0) (field_in s 1) (field_in s 2)) Misprint ≡ Read k a b c e →
        (length s ≡ 32) × (get_or s 31 0 ≡ line_feed)
        × (line_with (kind_of (get_or s 0 0)) (field_in s 0) (field_in s 1) (field_in s 2) ≡ Read k a b c e)
    by_tests true t is =
        let p = (and-true (eqb (length s) 32) (eqb (get_or s 31 0) line_feed)).0 t in
        (eqb-true (length s) 32 p.0, eqb-true (get_or s 31 0) line_feed p.1, is)
    by_tests false t is = let z : ◌≡◌ {A = ℕ} 0 1 = cc in absurd (omega arith)

-- what is read is the line's text
line_text-line_of : (s : List ℕ) (k : Kind) (a b c e : ℕ) → line_of s ≡ Read k a b c e → s ≡ line_text k a b c e
unfolding line_text field_in
line_text-line_of s k a b c e h =
    let read = line_of-read s k a b c e h in
    let l : length s ≡ 32 = read.0 in
    let last : get_or s 31 0 ≡ line_feed = read.1 in
    let line = line_with-read (kind_of (get_or s 0 0)) k (field_in s 0) (field_in s 1) (field_in s 2) a b c e read.2 in
    let found = line.1 in
    let letter-kind : Kind = kind_of (get_or s 0 0) in
    let letter : get_or s 0 0 ≡ letter_of k = sym (letter_of-kind_of (get_or s 0 0) found.known) ∙ ap letter_of line.0 in
    let first : take 10 (drop 1 s) ≡ field_text (printed_field (content_of k 0) e a) =
    column-text (content_of letter-kind 0) (take 10 (drop 1 s)) (rw (length-take, length-drop) (omega arith)) found.first
    ∙ ap field_text (firm letter-kind (left_empty (content_of letter-kind 0) (field_in s 0)) e (value_of (field_in s 0))).0
    ∙ ap₂ (λ (k : Kind) (x : ℕ). field_text (printed_field (content_of k 0) e x)) line.0 found.first-is in
    let second : take 10 (drop 11 s) ≡ field_text (printed_field (content_of k 1) e b) =
    column-text (content_of letter-kind 1) (take 10 (drop 11 s)) (rw (length-take, length-drop) (omega arith)) found.second
    ∙ ap field_text (firm letter-kind (left_empty (content_of letter-kind 1) (field_in s 1)) e (value_of (field_in s 1))).1
    ∙ ap₂ (λ (k : Kind) (x : ℕ). field_text (printed_field (content_of k 1) e x)) line.0 found.second_is in
    let third : take 10 (drop 21 s) ≡ field_text (printed_field (content_of k 2) e c) =
    column-text (content_of letter-kind 2) (take 10 (drop 21 s)) (rw (length-take, length-drop) (omega arith)) found.third
    ∙ ap (λ (d : ℕ). field_text (printed_field (content_of letter-kind 2) d (value_of (field_in s 2)))) found.empty-is
    ∙ ap₂ (λ (k : Kind) (x : ℕ). field_text (printed_field (content_of k 2) e x)) line.0 found.third-is in
    line-parts s l ∙ rw (letter, first, second, third, last)

-- a letter, three columns and a last byte: the length, the bytes at both ends, and each column again
module _ (letter last : ℕ) (a b c : List ℕ) (x : length a ≡ 10) (y : length b ≡ 10) (z : length c ≡ 10) where
  abbrev bytes : List ℕ
  bytes = letter ∷ a ++ b ++ c ++ last ∷ []

  columns-length : (length (a ++ b) ≡ 20) × (length (a ++ b ++ c) ≡ 30)
  columns-length = (rw length-append (omega arith), rw (length-append (a ++ b) c, length-append a b) (omega arith))

  length-bytes : length bytes ≡ 32
  length-bytes = rw (length-append (a ++ b ++ c) (last ∷ [])) (omega (arith, columns-length.1))

  last_byte : get_or bytes 31 0 ≡ last
  last_byte = get_or_at (a ++ b ++ c) last [] 0 30 columns-length.1

  first-column : take 10 (drop 1 bytes) ≡ a
  first-column = rw (append_assoc (a ++ b) c (last ∷ []), append_assoc a b (c ++ (last ∷ []))) (take_at a (b ++ (c ++ (last ∷ []))) 10 x)

  second-column : take 10 (drop 11 bytes) ≡ b
  second-column =
      rw (
        append_assoc (a ++ b) c (last ∷ []),
        append_assoc a b (c ++ (last ∷ [])),
        drop_at a (b ++ (c ++ (last ∷ []))) 10 x,
      )
      (take_at b (c ++ (last ∷ [])) 10 y)

  third-column : take 10 (drop 21 bytes) ≡ c
  third-column =
      rw (append_assoc (a ++ b) c (last ∷ []), drop_at (a ++ b) (c ++ (last ∷ [])) 20 columns-length.0)
      (take_at c (last ∷ []) 10 z)

-- a column as it is written is read as what was written, and is as wanted
field_of-written : (w e x : ℕ) → x < 2 ^ 32 → field_of (field_text (printed_field w e x)) ≡ printed_field w e x
field_of-written w e x h = by_flag (eqb w 1 || (eqb w 2 && eqb e 0))
  where
    by_flag : (b : Bool) → field_of (field_text (cond b (Filled x) Empty)) ≡ cond b (Filled x) Empty
    by_flag true = field_of-field x h
    by_flag false = field_of-empty

length-written : (w e x : ℕ) → x < 2 ^ 32 → length (field_text (printed_field w e x)) ≡ 10
length-written w e x h = by_flag (eqb w 1 || (eqb w 2 && eqb e 0))
  where
    by_flag : (b : Bool) → length (field_text (cond b (Filled x) Empty)) ≡ 10
    by_flag true = length-field x h
    by_flag false = refl

wanted-written : (k : Kind) (column e x : ℕ) → as_wanted (content_of k column) (printed_field (content_of k column) e x) ≡ true
unfolding content_of
wanted-written k column e x = by-content (is_memory k && eqb column 2) (ltb column (numbers_in k)) (eqb e 0)
  where
    by-content : (either filled zero : Bool) → let w : ℕ = cond either 2 (cond filled 1 0) in
        as_wanted w (cond (eqb w 1 || (eqb w 2 && zero)) (Filled x) Empty) ≡ true
    by-content true filled true = refl
    by-content true filled false = refl
    by-content false true zero = refl
    by-content false false zero = refl

-- a line as it is written is read back, with 0 where a field is empty
line_of-line_text :
    (k : Kind) (a b c e : ℕ) → is_known k ≡ true → a < 2 ^ 32 → b < 2 ^ 32 → c < 2 ^ 32 →
    line_of (line_text k a b c e)
    ≡ Read k (value_of (printed_field (content_of k 0) e a)) (value_of (printed_field (content_of k 1) e b)) (value_of (printed_field (content_of k 2) e c))
    (left_empty (content_of k 2) (printed_field (content_of k 2) e c))
unfolding line_text field_in
line_of-line_text k a b c e h x y z =
    let s : List ℕ = line_text k a b c e in
    let f : List ℕ = field_text (printed_field (content_of k 0) e a) in
    let g : List ℕ = field_text (printed_field (content_of k 1) e b) in
    let o : List ℕ = field_text (printed_field (content_of k 2) e c) in
    let lf : length f ≡ 10 = length-written (content_of k 0) e a x in
    let lg : length g ≡ 10 = length-written (content_of k 1) e b y in
    let lo : length o ≡ 10 = length-written (content_of k 2) e c z in
    let first : field_in s 0 ≡ printed_field (content_of k 0) e a =
    ap field_of (first-column (letter_of k) line_feed f g o lf lg lo) ∙ field_of-written (content_of k 0) e a x in
    let second : field_in s 1 ≡ printed_field (content_of k 1) e b =
    ap field_of (second-column (letter_of k) line_feed f g o lf lg lo) ∙ field_of-written (content_of k 1) e b y in
    let third : field_in s 2 ≡ printed_field (content_of k 2) e c =
    ap field_of (third-column (letter_of k) line_feed f g o lf lg lo) ∙ field_of-written (content_of k 2) e c z in
    line_of-fields s (length-bytes (letter_of k) line_feed f g o lf lg lo) (last_byte (letter_of k) line_feed f g o lf lg lo)
    ∙ rw (kind_of-letter_of k h, first, second, third)
    (line_with-tests k _ _ _ true true true true h (wanted-written k 0 e a) (wanted-written k 1 e b)
    (wanted-written k 2 e c))

-- both
pub lines-as-written : LinesAsWritten
lines-as-written = record { read→text = line_text-line_of; text→read = line_of-line_text }
