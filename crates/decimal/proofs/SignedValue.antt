-- Laws of specs/SignedValue.antt: what is written reads back as the same number, what is read is the text of its number, and any other
-- text is none; and by `number_in` of the digits behind at most one minus. No contract cites this file.
use Prim.Native.Nat.{ℕ, zero, suc, ◌-◌, ◌^◌, ◌≤◌, ◌<◌}
use mathlib.Core.Path.{◌≡◌, refl, sym, ap, ◌∙◌}
use mathlib.Core.Bool.{Bool, true, false, cond, ◌&&◌}
use mathlib.Core.List.{List, [], ◌∷◌}
use native.Mathlib.Omega.{arith}
use lib.Dec.{ltb}
use lib.IntN.{ℤ, pos, negsuc, neg_ℤ, nat_abs, ◌-ℤ◌, +ℤ_idl}
use lib.ListN.{length, get_or, take, drop}
use lib.Seq.{take_all}
use mir.Syntax.{w32}
use mir.Val.{SFits, to_z, of_z}
use mir.ValLaws.{to_z-of_z, to_z_pos}
use borrow.Author.Tests.{lt-ltb, ltb-true, ne_eqb}
use Rattle.std.specs.Prelude.{Option, Some, None}
use Rattle.decimal.specs.Digits.{minus_sign, digits, signed_digits}
use Rattle.decimal.specs.TextValue.{same_text, value_after, number_in}
use Rattle.decimal.specs.SignedValue.{signed_value, clause_number_in}
use Rattle.decimal.proofs.Digits.{length-digits-some}
use Rattle.decimal.proofs.TextValue.{same_text-refl, same_text-true, value_after-digits, first-is-digit, number_in-digits, digits-number_in}

-- a text that does not begin with a minus is one without a sign
unsigned-value : (s : List ℕ) → (get_or s 0 0 ≡ minus_sign → ⊥) → signed_value s ≡ pos (value_after 0 s)
unfolding signed_value value_after
unsigned-value [] n = refl
unsigned-value (c ∷ s) n = rw (ne_eqb c minus_sign n)

digits-unsigned : (x : ℕ) → get_or (digits x) 0 0 ≡ minus_sign → ⊥
digits-unsigned x e = omega (arith, first-is-digit x)

-- the value of a number's digits is the number
pub signed_value-digits : (z : ℤ) → signed_value (signed_digits z) ≡ z
unfolding signed_digits
signed_value-digits (pos x) = unsigned-value (digits x) (digits-unsigned x) ∙ ap pos (value_after-digits x)
signed_value-digits (negsuc x) = unfold signed_value in rw (value_after-digits (suc x))

-- what is written reads back as the same number
pub clause_number_in-digits : (z : ℤ) → nat_abs z < 2 ^ 31 → clause_number_in (signed_digits z) ≡ Some z
unfolding clause_number_in
clause_number_in-digits z h = rw (signed_value-digits z, same_text-refl, lt-ltb (nat_abs z) (2 ^ 31) h)

-- what is read is the text of its number
pub digits-clause_number_in : (s : List ℕ) (z : ℤ) → clause_number_in s ≡ Some z → (s ≡ signed_digits z) × (nat_abs z < 2 ^ 31)
unfolding clause_number_in
digits-clause_number_in s z h =
    by-test (same_text s (signed_digits (signed_value s))) (ltb (nat_abs (signed_value s)) (2 ^ 31)) refl refl h
  where
    by-test : (a b : Bool) → same_text s (signed_digits (signed_value s)) ≡ a → ltb (nat_abs (signed_value s)) (2 ^ 31) ≡ b
        → cond (a && b) (Some (signed_value s)) None ≡ Some z → (s ≡ signed_digits z) × (nat_abs z < 2 ^ 31)
    by-test true true p q h =
        let e : signed_value s ≡ z = cc in
        (same_text-true s (signed_digits (signed_value s)) p ∙ ap signed_digits e, rw e at (ltb-true (nat_abs (signed_value s)) (2 ^ 31) q))
    by-test true false p q h = let z : ◌≡◌ {A = ℕ} 0 1 = cc in absurd (omega arith)
    by-test false b p q h = let z : ◌≡◌ {A = ℕ} 0 1 = cc in absurd (omega arith)

-- a text that is no number's is read as none
pub clause_number_in-other : (s : List ℕ) → ((z : ℤ) → nat_abs z < 2 ^ 31 → s ≡ signed_digits z → ⊥) → clause_number_in s ≡ None
clause_number_in-other s none = by_answer (clause_number_in s) refl
  where
    by_answer : (r : Option ℤ) → clause_number_in s ≡ r → clause_number_in s ≡ None
    by_answer (Some z) e = absurd (none z (digits-clause_number_in s z e).1 (digits-clause_number_in s z e).0)
    by_answer None e = e

-- What a reader finds in a text, from the left: the tests by which it is no clause number, and its number.

-- an empty text
pub clause_number_in-empty : (s : List ℕ) → length s ≡ 0 → clause_number_in s ≡ None
unfolding signed_digits
clause_number_in-empty s l = clause_number_in-other s by_sign
  where
    by_sign : (z : ℤ) → nat_abs z < 2 ^ 31 → s ≡ signed_digits z → ⊥
    by_sign (pos x) h e = omega (arith, length-digits-some x, ap length e)
    by_sign (negsuc x) h e = omega (arith, ap length e)

-- a text with a minus in front, by what is behind it
module _ (s : List ℕ) (some : 0 < length s) (sign : get_or s 0 0 ≡ minus_sign) where
  abbrev behind : List ℕ
  behind = take (length s - 1) (drop 1 s)

  behind-minus : s ≡ minus_sign ∷ behind
  behind-minus = at s some sign
    where
      at : (s : List ℕ) → 0 < length s → get_or s 0 0 ≡ minus_sign → s ≡ minus_sign ∷ take (length s - 1) (drop 1 s)
      at [] l e = absurd (omega arith)
      at (c ∷ t) l e = rw (take_all (suc (length t) - 1) t (omega arith), e)

  -- only the digits of a number that is not 0 make a clause number
  pub clause_number_in-minus-other : ((x : ℕ) → 1 ≤ x → x < 2 ^ 31 → number_in behind ≡ Some x → ⊥) → clause_number_in s ≡ None
  unfolding signed_digits
  clause_number_in-minus-other none = clause_number_in-other s by_sign
    where
      by_sign : (z : ℤ) → nat_abs z < 2 ^ 31 → s ≡ signed_digits z → ⊥
      by_sign (pos x) h e = digits-unsigned x (sym (ap (λ (t : List ℕ). get_or t 0 0) e) ∙ sign)
      by_sign (negsuc x) h e =
          let same : behind ≡ digits (suc x) = ap (drop 1) (sym behind-minus ∙ e) in
          none (suc x) (omega arith) h (ap number_in same ∙ number_in-digits (suc x) (omega arith))

  pub clause_number_in-minus : (x : ℕ) → number_in behind ≡ Some x → 1 ≤ x → x < 2 ^ 31 → clause_number_in s ≡ Some (neg_ℤ (pos x))
  unfolding signed_digits
  clause_number_in-minus zero e l h = absurd (omega arith)
  clause_number_in-minus (suc x) e l h =
      ap clause_number_in (behind-minus ∙ ap (λ (t : List ℕ). minus_sign ∷ t) (digits-number_in behind (suc x) e).0)
      ∙ clause_number_in-digits (negsuc x) h

-- a text with none
pub clause_number_in-unsigned-other : (s : List ℕ) → (get_or s 0 0 ≡ minus_sign → ⊥)
    → ((x : ℕ) → x < 2 ^ 31 → number_in s ≡ Some x → ⊥) → clause_number_in s ≡ None
unfolding signed_digits
clause_number_in-unsigned-other s sign none = clause_number_in-other s by_sign
  where
    by_sign : (z : ℤ) → nat_abs z < 2 ^ 31 → s ≡ signed_digits z → ⊥
    by_sign (pos x) h e = none x h (ap number_in e ∙ number_in-digits x (omega arith))
    by_sign (negsuc x) h e = sign (ap (λ (t : List ℕ). get_or t 0 0) e)

pub clause_number_in-unsigned : (s : List ℕ) (x : ℕ) → number_in s ≡ Some x → x < 2 ^ 31 → clause_number_in s ≡ Some (pos x)
unfolding signed_digits
clause_number_in-unsigned s x e h = ap clause_number_in (digits-number_in s x e).0 ∙ clause_number_in-digits (pos x) h

-- a number is read as one number
pub value-unique : {r : Option ℕ} {x y : ℕ} → r ≡ Some x → r ≡ Some y → x ≡ y
value-unique p q = cc

-- the machine's number of 31 bits, and its 0 less that
pub unsigned_is : (x : ℕ) → x < 2 ^ 31 → to_z w32 x ≡ pos x
unsigned_is x h = to_z_pos w32 x h

pub opposite-fits : (x : ℕ) → x < 2 ^ 31 → SFits w32 (pos 0 -ℤ to_z w32 x)
opposite-fits x h = rw (unsigned_is x h, +ℤ_idl (neg_ℤ (pos x))) (fits x h)
  where
    fits : (x : ℕ) → x < 2 ^ 31 → SFits w32 (neg_ℤ (pos x))
    fits zero h = record { sfits = omega arith }
    fits (suc x) h = record { sfits = omega arith }

pub opposite-is : (x : ℕ) → x < 2 ^ 31 → to_z w32 (of_z w32 (pos 0 -ℤ to_z w32 x)) ≡ neg_ℤ (pos x)
opposite-is x h = to_z-of_z w32 _ (opposite-fits x h) ∙ rw (unsigned_is x h, +ℤ_idl (neg_ℤ (pos x)))
