-- Laws of specs/Fields.antt: a field that is read as a number is that number's text, and back; the same of an empty field.
-- No contract cites this file.
use Prim.Native.Nat.{ℕ, zero, suc, ◌+◌, ◌-◌, ◌^◌, ◌≤◌, ◌<◌}
use mathlib.Core.Path.{◌≡◌, refl, sym, ap, ap₂, ◌∙◌}
use mathlib.Core.Bool.{Bool, true, false, cond}
use mathlib.Core.List.{List, [], ◌∷◌, ◌++◌}
use native.Mathlib.Numerals.{add-one}
use native.Mathlib.Omega.{arith}
use borrow.Author.Tests.{eq-eqb, ne_eqb, eqb-true}
use lib.Dec.{eqb}
use lib.ListN.{length, get_or, drop, replicate, length-append, length-replicate, drop_of_length-le}
use lib.Seq.{drop-cons}
use Rattle.std.specs.Prelude.{Option, Some, None}
use Rattle.decimal.specs.Digits.{space, digits, field, empty_field}
use Rattle.decimal.specs.TextValue.{number_in}
use Rattle.decimal.proofs.Digits.{length-digits-some}
use Rattle.decimal.proofs.TextValue.{first-is-digit, number_in-digits, digits-number_in}
use Rattle.sheet_fields.specs.Fields.{drop_spaces, filled_with, behind_spaces, field_of}
use Rattle.sheet_fields.specs.declared.Field.TheVariants.{Empty, Filled}

-- a space is passed over, another byte is where the digits begin, and at the end nothing is left
pub drop_spaces-space : (s : List ℕ) (i : ℕ) → i < length s → get_or s i 0 ≡ space → drop_spaces (drop i s) ≡ drop_spaces (drop (i + 1) s)
unfolding drop_spaces
drop_spaces-space s i h e = rw (add-one, drop-cons s i 0 h, eq-eqb (get_or s i 0) space e)

pub drop_spaces-other : (s : List ℕ) (i : ℕ) → i < length s → (get_or s i 0 ≡ space → ⊥) → drop_spaces (drop i s) ≡ drop i s
unfolding drop_spaces
drop_spaces-other s i h n = rw (drop-cons s i 0 h, ne_eqb (get_or s i 0) space n)

pub drop_spaces-end : (s : List ℕ) (i : ℕ) → length s ≤ i → drop_spaces (drop i s) ≡ drop i s
unfolding drop_spaces
drop_spaces-end s i h = rw (drop_of_length-le s h)

-- what a field is read as, from the part behind its spaces
behind_spaces-none : (d : List ℕ) → length d ≡ 0 → behind_spaces d ≡ Empty
unfolding behind_spaces
behind_spaces-none [] e = refl
behind_spaces-none (c ∷ d) e = absurd (omega arith)

behind_spaces-some : (d : List ℕ) → (length d ≡ 0 → ⊥) → behind_spaces d ≡ filled_with (number_in d)
unfolding behind_spaces
behind_spaces-some [] n = absurd (n refl)
behind_spaces-some (c ∷ d) n = refl

pub field_of-none : (f d : List ℕ) → d ≡ drop_spaces f → length d ≡ 0 → field_of f ≡ Empty
unfolding field_of
field_of-none f d e z = ap behind_spaces (sym e) ∙ behind_spaces-none d z

pub field_of-some : (f d : List ℕ) → d ≡ drop_spaces f → (length d ≡ 0 → ⊥) → field_of f ≡ filled_with (number_in d)
unfolding field_of
field_of-some f d e n = ap behind_spaces (sym e) ∙ behind_spaces-some d n

-- spaces before a text are passed over, and a text that begins with no space is kept
drop_spaces-before : (n : ℕ) (s : List ℕ) → drop_spaces (replicate n space ++ s) ≡ drop_spaces s
unfolding drop_spaces
drop_spaces-before zero s = refl
drop_spaces-before (suc n) s = drop_spaces-before n s

drop_spaces-kept : (s : List ℕ) → (get_or s 0 0 ≡ space → ⊥) → drop_spaces s ≡ s
unfolding drop_spaces
drop_spaces-kept [] n = refl
drop_spaces-kept (c ∷ s) n = rw (ne_eqb c space n)

-- a text is the spaces that are passed over, and what is behind them
drop_spaces-split : (s : List ℕ) → (n : ℕ) × (s ≡ replicate n space ++ drop_spaces s)
unfolding drop_spaces
drop_spaces-split [] = (0, refl)
drop_spaces-split (c ∷ s) = by-test (eqb c space) refl (drop_spaces-split s)
  where
    by-test :
        (b : Bool) → eqb c space ≡ b → (n : ℕ) × (s ≡ replicate n space ++ drop_spaces s) →
        (n : ℕ) × (c ∷ s ≡ replicate n space ++ cond b (drop_spaces s) (c ∷ s))
    by-test true e (n, h) = (suc n, ap₂ (λ x y. x ∷ y) (eqb-true c space e) h)
    by-test false e h = (0, refl)

-- how many spaces they are
spaces-before : (s : List ℕ) → s ≡ replicate (length s - length (drop_spaces s)) space ++ drop_spaces s
spaces-before s =
    let n : ℕ = (drop_spaces-split s).0 in
    let h : s ≡ replicate n space ++ drop_spaces s = (drop_spaces-split s).1 in
    let l : length s ≡ n + length (drop_spaces s) = ap length h ∙ rw (length-append (replicate n space) (drop_spaces s), length-replicate) in
    let e : n ≡ length s - length (drop_spaces s) = omega arith in
    h ∙ ap (λ (n : ℕ). replicate n space ++ drop_spaces s) e

-- a number's field is read as that number, and ten spaces as empty
pub field_of-field : (x : ℕ) → x < 2 ^ 32 → field_of (field x) ≡ Filled x
unfolding field filled_with
field_of-field x h =
    let kept : digits x ≡ drop_spaces (field x) =
    sym
    (drop_spaces-before (10 - length (digits x)) (digits x)
    ∙ drop_spaces-kept (digits x) (λ e. omega (arith, first-is-digit x))) in
    field_of-some (field x) (digits x) kept (λ e. omega (arith, length-digits-some x)) ∙ ap filled_with (number_in-digits x h)

pub field_of-empty : field_of empty_field ≡ Empty
unfolding field_of drop_spaces behind_spaces
field_of-empty = refl

-- what is read as a number or as empty, taken back to the part behind the spaces
filled-back : (r : Option ℕ) (x : ℕ) → filled_with r ≡ Filled x → r ≡ Some x
unfolding filled_with
filled-back (Some y) x h = cc
filled-back None x h = let z : ◌≡◌ {A = ℕ} 0 1 = cc in absurd (omega arith)

never-empty : (r : Option ℕ) → filled_with r ≡ Empty → ⊥
unfolding filled_with
never-empty (Some y) h = let z : ◌≡◌ {A = ℕ} 0 1 = cc in omega arith
never-empty None h = let z : ◌≡◌ {A = ℕ} 0 1 = cc in omega arith

number_behind : (d : List ℕ) (x : ℕ) → behind_spaces d ≡ Filled x → number_in d ≡ Some x
unfolding behind_spaces
number_behind [] x h = let z : ◌≡◌ {A = ℕ} 0 1 = cc in absurd (omega arith)
number_behind (c ∷ d) x h = filled-back (number_in (c ∷ d)) x h

nothing-behind : (d : List ℕ) → behind_spaces d ≡ Empty → d ≡ []
unfolding behind_spaces
nothing-behind [] h = refl
nothing-behind (c ∷ d) h = absurd (never-empty (number_in (c ∷ d)) h)

-- ten columns that are read as a number are its field
pub field-field_of : (f : List ℕ) (x : ℕ) → length f ≡ 10 → field_of f ≡ Filled x → (f ≡ field x) × (x < 2 ^ 32)
unfolding field field_of
field-field_of f x l h =
    let r : (drop_spaces f ≡ digits x) × (x < 2 ^ 32) = digits-number_in (drop_spaces f) x (number_behind (drop_spaces f) x h) in
    (spaces-before f ∙ rw (l, r.0), r.1)

-- ten columns that are read as empty are ten spaces
pub empty-field_of : (f : List ℕ) → length f ≡ 10 → field_of f ≡ Empty → f ≡ empty_field
unfolding field_of
empty-field_of f l h = spaces-before f ∙ rw (l, nothing-behind (drop_spaces f) h)
