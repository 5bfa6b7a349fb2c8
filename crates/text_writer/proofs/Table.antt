-- Laws of specs/Table.antt: a number's digits by groups of two and four, and the table of all groups of four. No contract cites
-- this file.
use Prim.Native.Nat.{ℕ, zero, suc, ◌+◌, ◌*◌, ◌/◌, ◌%◌, ◌≤◌, ◌<◌}
use mathlib.Core.Path.{◌≡◌, refl, sym, ◌∙◌, ap, subst}
use mathlib.Core.List.{List, [], ◌∷◌, ◌++◌, append_assoc, append-nil}
use mathlib.Core.Logic.{⊎_elim}
use native.Mathlib.Nat.{le-suc_iff, add-zero}
use native.Mathlib.Omega.{arith}
use lib.ListN.{length, length-append, get_or, set, get_or-append}
use lib.Seq.{get_or-append-add, drop-length}
use Rattle.decimal.specs.Digits.{digit, digits}
use Rattle.decimal.proofs.Digits.{digits-single, digits-snoc}
use Rattle.model.specs.Wrote.{Wrote}
use Rattle.text_writer.proofs.Writing.{wrote-two, wrote-three, wrote-four}
use Rattle.text_writer.specs.Table.{pair_digits, four_digits, table_below}

-- a number of two digits
pub digits-pair : (x : ℕ) → 10 ≤ x → x < 100 → digits x ≡ pair_digits x
digits-pair x l h = rw (digits-snoc x l, digits-single (x / 10) (omega arith))

-- a number of three digits
pub digits-three : (x : ℕ) → 100 ≤ x → x < 1000 → digits x ≡ digit (x / 100 % 10) ∷ pair_digits (x % 100)
digits-three x l h =
    let q : x / 10 / 10 ≡ x / 100 = omega arith in
    let t : x / 100 % 10 ≡ x / 100 = omega arith in
    let d : x / 10 % 10 ≡ x % 100 / 10 = omega arith in
    let u : x % 10 ≡ x % 100 % 10 = omega arith in
    rw (digits-snoc x (omega arith), digits-snoc (x / 10) (omega arith), q, digits-single (x / 100) (omega arith), t, d, u)

-- a number of three digits or more, before a text: its last two digits as a pair
digits-behind-pair : (x : ℕ) (t : List ℕ) → 100 ≤ x → digits x ++ t ≡ digits (x / 100) ++ (pair_digits (x % 100) ++ t)
digits-behind-pair x t l =
    let q : x / 10 / 10 ≡ x / 100 = omega arith in
    let d : x / 10 % 10 ≡ x % 100 / 10 = omega arith in
    let u : x % 10 ≡ x % 100 % 10 = omega arith in
    rw (digits-snoc x (omega arith), digits-snoc (x / 10) (omega arith), q, d, u)
    (append_assoc (digits (x / 100) ++ digit (x % 100 / 10) ∷ []) (digit (x % 100 % 10) ∷ []) t
    ∙ append_assoc (digits (x / 100)) (digit (x % 100 / 10) ∷ []) (digit (x % 100 % 10) ∷ t))

-- a number of four digits
pub digits-four : (x : ℕ) (t : List ℕ) → 1000 ≤ x → x < 10000 → digits x ++ t ≡ four_digits x ++ t
digits-four x t l h = digits-behind-pair x t (omega arith) ∙ ap (λ (s : List ℕ). s ++ (pair_digits (x % 100) ++ t)) (digits-pair (x / 100) (omega arith) (omega arith))

-- one of five digits or more: its last four together
pub digits-behind-four : (x : ℕ) (t : List ℕ) → 10000 ≤ x → digits x ++ t ≡ digits (x / 10000) ++ (four_digits (x % 10000) ++ t)
digits-behind-four x t l =
    let q : x / 100 / 100 ≡ x / 10000 = omega arith in
    let d : x / 100 % 100 ≡ x % 10000 / 100 = omega arith in
    let u : x % 100 ≡ x % 10000 % 100 = omega arith in
    rw (digits-behind-pair x t (omega arith), digits-behind-pair (x / 100) (pair_digits (x % 100) ++ t) (omega arith), q, d, u)

-- the table has four bytes for each number
pub length-table_below : (n : ℕ) → length (table_below n) ≡ n * 4
unfolding table_below
length-table_below zero = refl
length-table_below (suc n) = rw (length-append (table_below n) (four_digits n)) (omega (arith, length-table_below n))

-- a slice of just that length, filled, is the table
pub filled-table : (old new : List ℕ) {count : ℕ} → length old ≡ 40000 → Wrote (table_below 10000) old new count → new ≡ table_below 10000
filled-table old new l w =
    let all : length (table_below 10000) ≡ length old = length-table_below 10000 ∙ sym l in
    w.leaves ∙ rw (all, drop-length old) (append-nil (table_below 10000))

-- byte d of x's digits stands at 4x + d
table_below-at : (n x d : ℕ) → x < n → d < 4 → get_or (table_below n) (x * 4 + d) 0 ≡ get_or (four_digits x) d 0
unfolding table_below
table_below-at zero x d h b = absurd (omega arith)
table_below-at (suc n) x d h b =
    ⊎_elim
    (λ (l : suc x ≤ n).
    get_or-append (table_below n) (four_digits n) 0 (x * 4 + d) (omega (arith, length-table_below n)) ∙ table_below-at n x d l b)
    (λ (e : suc x ≡ suc n).
    let last : get_or (table_below n ++ four_digits n) (n * 4 + d) 0 ≡ get_or (four_digits n) d 0 =
    rw (← length-table_below n) (get_or-append-add (table_below n) (four_digits n) d 0) in
    let same : n ≡ x = omega arith in
    subst (λ (y : ℕ). get_or (table_below n ++ four_digits n) (y * 4 + d) 0 ≡ get_or (four_digits y) d 0) same last)
    (le-suc_iff.0 h)

-- of a table that is at hand: its length, and the bytes of x written
module _ (table : List ℕ) (is-table : table ≡ table_below 10000) where
  pub length-table : length table ≡ 40000
  length-table = ap length is-table ∙ length-table_below 10000

  -- byte d of x's digits
  byte : (x d : ℕ) → x < 10000 → d < 4 → get_or table (x * 4 + d) 0 ≡ get_or (four_digits x) d 0
  byte x d h b = rw is-table (table_below-at 10000 x d h b)

  pub wrote-pair-by :
      (x : ℕ) (old : List ℕ) → x < 100 → 2 ≤ length old →
      Wrote (pair_digits x) old (set (set old 0 (get_or table (x * 4 + 2) 0)) 1 (get_or table (x * 4 + 3) 0)) 2
  wrote-pair-by x old h l =
      let low : x % 100 ≡ x = omega arith in
      rw (byte x 2 (omega arith) (omega arith), byte x 3 (omega arith) (omega arith), low) (wrote-two (digit (x / 10)) (digit (x % 10)) old l)

  pub wrote-three-by :
      (x : ℕ) (old : List ℕ) → 100 ≤ x → x < 1000 → 3 ≤ length old →
      Wrote (digits x) old
      (set (set (set old 0 (get_or table (x * 4 + 1) 0)) 1 (get_or table (x * 4 + 2) 0)) 2 (get_or table (x * 4 + 3) 0)) 3
  wrote-three-by x old l h room =
      rw (digits-three x l h, byte x 1 (omega arith) (omega arith), byte x 2 (omega arith) (omega arith), byte x 3 (omega arith) (omega arith))
      (wrote-three (digit (x / 100 % 10)) (digit (x % 100 / 10)) (digit (x % 100 % 10)) old room)

  pub wrote-four-by :
      (x : ℕ) (old : List ℕ) → x < 10000 → 4 ≤ length old →
      Wrote (four_digits x) old
      (set (set (set (set old 0 (get_or table (x * 4) 0)) 1 (get_or table (x * 4 + 1) 0)) 2 (get_or table (x * 4 + 2) 0)) 3 (get_or table (x * 4 + 3) 0)) 4
  wrote-four-by x old h l =
      let first : get_or table (x * 4) 0 ≡ digit (x / 100 / 10) = simp add-zero at (byte x 0 h (omega arith)) in
      rw (first, byte x 1 h (omega arith), byte x 2 h (omega arith), byte x 3 h (omega arith))
      (wrote-four (digit (x / 100 / 10)) (digit (x / 100 % 10)) (digit (x % 100 / 10)) (digit (x % 100 % 10)) old l)
