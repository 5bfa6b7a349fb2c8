-- Laws of specs/Filling.antt: one entry more, and one record more. Cited by the functions that fill.
use Prim.Native.Nat.{ℕ, ◌+◌, ◌-◌, ◌*◌, ◌≤◌, ◌<◌}
use mathlib.Core.Path.{◌≡◌, sym, ◌∙◌, ap}
use mathlib.Core.Bool.{cond}
use mathlib.Core.List.{List}
use mathlib.Core.Logic.{by_cases}
use native.Mathlib.Decide.{dec_lt, ℕ_discrete}
use native.Mathlib.Omega.{arith}
use lib.Dec.{eqb}
use lib.ListN.{length, get_or, set, length-set}
use lib.Seq.{get_or-set_same, get_or-set_other}
use borrow.Author.Tests.{lt-ltb, le-ltb, lt-leb, le-leb, eq-eqb, ne_eqb}
use Rattle.model.specs.Network.{renamed}
use Rattle.netlist.specs.NetOf.{put_numbers}
use Rattle.netlist.specs.RecordOf.{up_to}
use Rattle.netlist.proofs.PutNumbers.{length-put_numbers, first_at-put_numbers, second_at-put_numbers}
use Rattle.aiger_lines.specs.Parts.{numbers_on_line}
use Rattle.aiger_lines.specs.Steps.{first_five}
use Rattle.aiger_lines.specs.declared.Numbers.{Numbers}
use Rattle.aiger_lines.proofs.FirstFive.{five-value, five-holds}
use Rattle.aiger_definitions.specs.Definitions.{number_at}
use Rattle.aiger_codes.specs.WireTable.{wire_found}
use Rattle.aiger_codes.specs.Filling.{firsts_behind, entry_of, put_from, TableFilled, codes_behind, NoCodes, ListFilled}

module _ (first : ℕ) (f old : ℕ → ℕ) where
  -- inside, and outside
  pub put-inside : (count w : ℕ) → first ≤ w → w < first + count → put_from first count f old w ≡ f (w - first)
  unfolding put_from
  put-inside count w a b = rw (le-leb first w a, lt-ltb w (first + count) b)

  pub put-before : (count w : ℕ) → w < first → put_from first count f old w ≡ old w
  unfolding put_from
  put-before count w a = rw (lt-leb first w a)

  pub put-behind : (count w : ℕ) → first + count ≤ w → put_from first count f old w ≡ old w
  unfolding put_from
  put-behind count w a = rw (le-leb first w (omega arith), le-ltb w (first + count) a)

  -- one entry more leaves the others
  put_other : (count w : ℕ) → (w ≡ first + count → ⊥) → put_from first (count + 1) f old w ≡ put_from first count f old w
  put_other count w other =
      by_cases (dec_lt w first) (λ l. put-before (count + 1) w l ∙ sym (put-before count w l)) λ a.
      by_cases (dec_lt w (first + count))
      (λ l. put-inside (count + 1) w (omega arith) (omega arith) ∙ sym (put-inside count w (omega arith) l))
      (λ l. put-behind (count + 1) w (at l) ∙ sym (put-behind count w (omega arith)))
    where
      at : (w < first + count → ⊥) → first + (count + 1) ≤ w
      at l = by_cases (ℕ_discrete w (first + count)) (λ e. absurd (other e)) (λ e. omega arith)

  module _ (size : ℕ) (table : List ℕ) where
    filled_none : length table ≡ size → ((w : ℕ) → w < size → get_or table w 0 ≡ old w) → TableFilled size (put_from first 0 f old) table
    filled_none full same = record { full = full; has = λ w b. same w b ∙ sym (none w) }
      where
        none : (w : ℕ) → put_from first 0 f old w ≡ old w
        none w = by_cases (dec_lt w first) (put-before 0 w) (λ l. put-behind 0 w (omega arith))

    filled_next : (count x : ℕ) → first + count < size → x ≡ f count → TableFilled size (put_from first count f old) table
        → TableFilled size (put_from first (count + 1) f old) (set table (first + count) x)
    filled_next count x b e filled =
        record { full = length-set table (first + count) x ∙ filled.full; has = has }
      where
        has : (w : ℕ) → w < size → get_or (set table (first + count) x) w 0 ≡ put_from first (count + 1) f old w
        has w l =
            by_cases (ℕ_discrete w (first + count))
            (λ q.
            let back : first + count - first ≡ count = omega arith in
            rw q (get_or-set_same table (first + count) x 0 (omega (arith, filled.full)) ∙ e
            ∙ sym (put-inside (count + 1) (first + count) (omega arith) (omega arith) ∙ ap f back)))
            (λ q.
            get_or-set_other table (first + count) w x 0 q ∙ filled.has w l ∙ sym (put_other count w q))

-- the array of a line's numbers has five
pub five-long : {numbers : Numbers} (xs : List ℕ) → numbers ≡ first_five xs → length numbers.values ≡ 5
five-long xs e = ap (λ (n : Numbers). length n.values) e ∙ (five-holds xs).length-is

-- the table before any line, and with the first number of one line more
module _ (s : List ℕ) (line first : ℕ) (old table : List ℕ) where
  pub firsts-none : length table ≡ 661 → old ≡ table → TableFilled 661 (put_from first 0 (firsts_behind s line) (entry_of old)) table
  unfolding entry_of
  firsts-none full same = filled_none first (firsts_behind s line) (entry_of old) 661 table full (λ w b. rw same)

  pub firsts-next : (x : ℕ) (numbers : Numbers) → numbers ≡ first_five (numbers_on_line s (line + x + 1)) → length (numbers_on_line s (line + x + 1)) ≤ 5
      → first + x < 661
      → TableFilled 661 (put_from first x (firsts_behind s line) (entry_of old)) table
      → TableFilled 661 (put_from first (x + 1) (firsts_behind s line) (entry_of old)) (set table (first + x) (get_or numbers.values 0 0))
  unfolding firsts_behind
  firsts-next x numbers e few b filled =
      filled_next first (firsts_behind s line) (entry_of old) 661 table x (get_or numbers.values 0 0) b
      (ap (λ (xs : Numbers). get_or xs.values 0 0) e ∙ five-value (numbers_on_line s (line + x + 1)) 0 few) filled

-- one number more of those below a size
pub up_to-next : (h : ℕ → ℕ) (count x : ℕ) → cond (eqb count x) (h count) (up_to count h x) ≡ up_to (count + 1) h x
up_to-next h count x =
    by_cases (ℕ_discrete count x)
    (λ e. rw (eq-eqb count x e, lt-ltb x (count + 1) (omega arith), e)) λ e.
    by_cases (dec_lt x count)
    (λ l. rw (ne_eqb count x e, lt-ltb x count l, lt-ltb x (count + 1) (omega arith)))
    (λ l. rw (ne_eqb count x e, le-ltb x count (omega arith), le-ltb x (count + 1) (omega arith)))

-- one record more of an unpacked list
module _ (f g : ℕ → ℕ) where
  list-next : (count x y : ℕ) (list : List ℕ) → count < 600 → x ≡ f count → y ≡ g count → ListFilled count f g list
      → ListFilled (count + 1) f g (put_numbers count x y list)
  list-next count x y list b e k filled =
      record {
        full = length-put_numbers list count x y ∙ filled.full;
        firsts = λ z.
            ap (λ (h : ℕ → ℕ). h z) (first_at-put_numbers list count x y filled.full b)
            ∙ rw (filled.firsts z, e) (up_to-next f count z);
        seconds = λ z.
            ap (λ (h : ℕ → ℕ). h z) (second_at-put_numbers list count x y filled.full b)
            ∙ rw (filled.seconds z, k) (up_to-next g count z);
      }

  pub list-none : (list : List ℕ) → NoCodes list → ListFilled 0 f g list
  list-none list empty =
      record {
        full = empty.full;
        firsts = λ x. empty.none (2 * x) ∙ rw (le-ltb x 0 (omega arith));
        seconds = λ x. empty.none (2 * x + 1) ∙ rw (le-ltb x 0 (omega arith));
      }

-- the codes of one line more
module _ (s : List ℕ) (line : ℕ) (table list : List ℕ) where
  pub codes-next : (x : ℕ) (numbers : Numbers) (left right : ℕ) → numbers ≡ first_five (numbers_on_line s (line + x + 1))
      → length (numbers_on_line s (line + x + 1)) ≤ 5 → x < 600
      → left ≡ renamed (wire_found table) (get_or numbers.values 1 0) → right ≡ renamed (wire_found table) (get_or numbers.values 2 0)
      → ListFilled x (codes_behind s line table 1) (codes_behind s line table 2) list
      → ListFilled (x + 1) (codes_behind s line table 1) (codes_behind s line table 2) (put_numbers x left right list)
  unfolding codes_behind
  codes-next x numbers left right e few b l r filled =
      list-next (codes_behind s line table 1) (codes_behind s line table 2) x left right list b (l ∙ at 1) (r ∙ at 2) filled
    where
      at : (i : ℕ) → renamed (wire_found table) (get_or numbers.values i 0) ≡ renamed (wire_found table) (number_at s (line + x + 1) i)
      at i =
          ap (λ (xs : Numbers). renamed (wire_found table) (get_or xs.values i 0)) e
          ∙ ap (renamed (wire_found table)) (five-value (numbers_on_line s (line + x + 1)) i few)
