-- Laws of specs/Text.antt: the texts' lengths, and the clauses' text number by number. No contract cites this file.
use Prim.Native.Nat.{ℕ, zero, suc, ◌+◌, ◌*◌, ◌^◌, ◌≤◌, ◌<◌}
use mathlib.Core.Path.{◌≡◌, refl, sym, ap, ◌∙◌}
use mathlib.Core.Bool.{true}
use mathlib.Core.List.{List, [], ◌∷◌, ◌++◌, append_assoc, append-nil}
use native.Mathlib.Omega.{arith}
use borrow.Author.Tests.{ltb-true}
use lib.Dec.{ltb}
use lib.IntN.{ℤ, pos, negsuc}
use lib.ListN.{length, length-append, get_or, take, drop, take-append-drop}
use lib.Seq.{take-suc}
use mir.Syntax.{w32}
use mir.Val.{SFits, to_z, of_z}
use Rattle.decimal.proofs.Digits.{digits-single, digits-behind, length-digits-ten, length-field}
use Rattle.decimal.proofs.TextValue.{digit_at, first-digit}
use Rattle.decimal.proofs.SignedValue.{signed_value-digits}
use Rattle.decimal.proofs.Signed.{length-signed_digits, read_back}
use Rattle.decimal.specs.Digits.{digit, space, minus_sign, line_feed, digits, field, signed_digits}
use Rattle.model.proofs.Gather.{All, nothing, also}
use Rattle.dimacs.specs.Text.{problem, refused, header_text, refusal_text, behind, number_text, clause_text, OtherNumbers, NumberPrinted}

-- the header's length
pub length-header_text : (variables clauses : ℕ) → length (header_text variables clauses) ≡ 8 + length (digits variables) + length (digits clauses)
unfolding header_text
length-header_text v c =
    omega
    (arith, length-append (problem ++ (digits v ++ space ∷ [])) (digits c ++ line_feed ∷ []), length-append problem (digits v ++ space ∷ []), length-append (digits v) (space ∷ []), length-append (digits c) (line_feed ∷ []))

-- of numbers of 32 bits at most 28 bytes
pub header_text-most : (variables clauses : ℕ) → variables < 2 ^ 32 → clauses < 2 ^ 32 → length (header_text variables clauses) ≤ 28
header_text-most variables clauses v c =
    omega (arith, length-header_text variables clauses, length-digits-ten variables v, length-digits-ten clauses c)

-- a refusal's length
pub length-refusal_text : (number place : ℕ) → number < 2 ^ 32 → place < 2 ^ 32 → length (refusal_text number place) ≡ 28
unfolding refusal_text
length-refusal_text n p f g =
    omega
    (arith, length-append (refused ++ field n ++ field p) (line_feed ∷ []), length-append (refused ++ field n) (field p), length-append refused (field n), length-field n f, length-field p g)

-- the end mark, and any other number, as a machine tells them, by their bits
pub number_text-zero : (z : ℤ) → SFits w32 z → of_z w32 z ≡ 0 → number_text z ≡ digit 0 ∷ line_feed ∷ []
unfolding signed_digits
number_text-zero z f e =
    let zero_is : z ≡ pos 0 = sym (read_back z f) ∙ ap (to_z w32) e in
    rw (zero_is, digits-single 0 (omega arith))

pub behind-other : (z : ℤ) → (of_z w32 z ≡ 0 → ⊥) → behind z ≡ space
behind-other (pos zero) n = absurd (n refl)
behind-other (pos (suc v)) n = refl
behind-other (negsuc v) n = refl

-- the text of numbers one list behind the other is the one's text behind the other's
pub clause_text-append : (xs ys : List ℤ) → clause_text (xs ++ ys) ≡ clause_text xs ++ clause_text ys
unfolding clause_text
clause_text-append [] ys = refl
clause_text-append (z ∷ zs) ys = rw (clause_text-append zs ys) (sym (append_assoc (number_text z) (clause_text zs) (clause_text ys)))

-- one number alone
clause_text-single : (z : ℤ) → clause_text (z ∷ []) ≡ number_text z
unfolding clause_text
clause_text-single z = append-nil (number_text z)

-- one number more
pub clause_text-next : (zs : List ℤ) (i : ℕ) → i < length zs → clause_text (take (suc i) zs) ≡ clause_text (take i zs) ++ number_text (get_or zs i (pos 0))
clause_text-next zs i h =
    ap clause_text (take-suc zs i (pos 0) h) ∙ clause_text-append (take i zs) (get_or zs i (pos 0) ∷ []) ∙ ap (λ (t : List ℕ). clause_text (take i zs) ++ t) (clause_text-single (get_or zs i (pos 0)))

-- the text of the first numbers is no longer than that of all
length-clause_text-take : (zs : List ℤ) (i : ℕ) → length (clause_text (take i zs)) ≤ length (clause_text zs)
length-clause_text-take zs i =
    let e : length (clause_text (take i zs ++ drop i zs)) ≡ length (clause_text (take i zs)) + length (clause_text (drop i zs)) =
    ap length (clause_text-append (take i zs) (drop i zs)) ∙ length-append (clause_text (take i zs)) (clause_text (drop i zs)) in
    let w : length (clause_text (take i zs ++ drop i zs)) ≡ length (clause_text zs) = ap (λ (t : List ℤ). length (clause_text t)) (take-append-drop i zs) in
    omega arith

-- so there is room for the number at i where there is room for all
pub clause_text-room :
    (zs : List ℤ) (i : ℕ) → i < length zs → length (clause_text (take i zs)) + length (number_text (get_or zs i (pos 0))) ≤ length (clause_text zs)
clause_text-room zs i h =
    let e : length (clause_text (take (suc i) zs)) ≡ length (clause_text (take i zs)) + length (number_text (get_or zs i (pos 0))) =
    ap length (clause_text-next zs i h) ∙ length-append (clause_text (take i zs)) (number_text (get_or zs i (pos 0))) in
    omega (arith, length-clause_text-take zs (suc i))

-- a number of 32 bits takes at most twelve bytes with the one behind it
length-number_text : (z : ℤ) → SFits w32 z → length (number_text z) ≤ 12
length-number_text z f = omega (arith, length-append (signed_digits z) (behind z ∷ []), length-signed_digits z f)

-- n numbers of 32 bits take at most 12 n bytes
pub length-clause_text : {zs : List ℤ} → All (SFits w32) zs → length (clause_text zs) ≤ 12 * length zs
unfolding clause_text
length-clause_text nothing = omega arith
length-clause_text (also {x = z} {xs = zs} f r) =
    rw (length-append (number_text z) (clause_text zs)) (omega (arith, length-number_text z f, length-clause_text r))

-- one digit more, of numbers that are written out
digits_more : (v d : ℕ) {ds : List ℕ} → ltb 0 v ≡ true → ltb d 10 ≡ true → digits v ≡ ds → digits (v * 10 + d) ≡ ds ++ digit d ∷ []
digits_more v d some single e = digits-behind v d (ltb-true 0 v some) (ltb-true d 10 single) ∙ ap (λ (xs : List ℕ). xs ++ digit d ∷ []) e

digits-least : digits 2147483648 ≡ 50 ∷ 49 ∷ 52 ∷ 55 ∷ 52 ∷ 56 ∷ 51 ∷ 54 ∷ 52 ∷ 56 ∷ []
digits-least =
    digits_more 214748364 8 refl refl (digits_more 21474836 4 refl refl (digits_more 2147483 6 refl refl
    (digits_more 214748 3 refl refl (digits_more 21474 8 refl refl (digits_more 2147 4 refl refl
    (digits_more 214 7 refl refl (digits_more 21 4 refl refl (digits_more 2 1 refl refl (digits-single 2 (omega arith))))))))))

-- the text of numbers that make no clause
pub other-numbers : OtherNumbers
unfolding clause_text signed_digits
other-numbers =
    record {
      end-alone = ap (λ (ds : List ℕ). (ds ++ line_feed ∷ []) ++ []) (digits-single 0 (omega arith));
      not-ended = ap (λ (ds : List ℕ). (ds ++ space ∷ []) ++ []) (digits-single 7 (omega arith));
      least = ap (λ (ds : List ℕ). ((minus_sign ∷ ds) ++ space ∷ []) ++ []) digits-least;
    }

-- the decimal of any number
pub number-printed : NumberPrinted
unfolding signed_digits
number-printed =
    record {
      printed = clause_text-single;
      value = signed_value-digits;
      only-digits = digit_at;
      minus-below = λ x. refl;
      no-leading-zero = λ x. first-digit (suc x) (omega arith);
      zero-alone = digits-single 0 (omega arith);
    }
