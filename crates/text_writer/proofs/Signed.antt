-- Laws of specs/Signed.antt: a signed number written by its parts. No contract cites this file.
use Prim.Native.Nat.{ℕ, suc, ◌+◌, ◌-◌, ◌<◌}
use mathlib.Core.Path.{◌≡◌, refl, sym, ap, ◌∙◌}
use mathlib.Core.List.{List, [], ◌∷◌, ◌++◌, append_assoc}
use native.Mathlib.Nat.{zero-add, add-zero}
use native.Mathlib.Omega.{arith}
use borrow.Rule.Slice.PartMut.{mid_of, put_mid}
use lib.IntN.{ℤ, pos, negsuc}
use lib.ListN.{length, length-append, set}
use lib.Seq.{drop-set-lt}
use Rattle.decimal.specs.Digits.{minus_sign, digits, signed_digits}
use Rattle.model.specs.Wrote.{Wrote}
use Rattle.decimal.proofs.Digits.{length-digits-some}
use Rattle.model.proofs.Wrote.{wrote_then}
use Rattle.text_writer.specs.Signed.{parts_of}
use Rattle.text_writer.specs.Extends.{Extends}
use Rattle.text_writer.proofs.Writing.{wrote-set, wrote-next}

-- the parts' lengths make the whole
pub length-parts : (z : ℤ) → length (signed_digits z) ≡ (parts_of z).sign + length (digits (parts_of z).value)
unfolding signed_digits
length-parts (pos n) = sym (zero-add (length (digits n)))
length-parts (negsuc n) = omega arith

-- a number's text by its parts, with no sign and with one
pub signed_digits-plain : (z : ℤ) → (parts_of z).sign ≡ 0 → signed_digits z ≡ digits (parts_of z).value
unfolding signed_digits
signed_digits-plain (pos n) h = refl
signed_digits-plain (negsuc n) h = absurd (omega (arith, h))

pub signed_digits-minus : (z : ℤ) → 0 < (parts_of z).sign → signed_digits z ≡ minus_sign ∷ digits (parts_of z).value
unfolding signed_digits
signed_digits-minus (pos n) h = absurd (omega (arith, h))
signed_digits-minus (negsuc n) h = refl

-- a text does not tell what stood where it is
wrote-over : (text start new : List ℕ) (i x count : ℕ) → i < length text → Wrote text (set start i x) new count → Wrote text start new count
wrote-over text start new i x count h w =
    record { counted = w.counted; leaves = w.leaves ∙ ap (λ (t : List ℕ). text ++ t) (drop-set-lt (length text) start i x h) }

-- a minus, and then the digits, before a text, into the rest behind the sign's bytes: where there is no sign they stand over the minus
pub wrote-signed :
    (z : ℤ) (t old part : List ℕ) (i j : ℕ) → i < length old →
    Wrote (digits (parts_of z).value ++ t) (mid_of (i + (parts_of z).sign) (length (set old i minus_sign) - (i + (parts_of z).sign)) (set old i minus_sign)) part j →
    Extends (signed_digits z ++ t) i old (put_mid (i + (parts_of z).sign) (length (set old i minus_sign) - (i + (parts_of z).sign)) (set old i minus_sign) part) (i + (parts_of z).sign + j)
unfolding signed_digits
wrote-signed (pos n) t old part i j h v seen start w =
    let all : List ℕ = digits n ++ t in
    let inside : i < length (seen ++ all) = omega (arith, w.counted, length-append seen all, length-append (digits n) t, length-digits-some n) in
    rw (add-zero i)
    (wrote-over (seen ++ all) start _ i minus_sign _ inside
    (wrote_then seen all (set start i minus_sign) (set old i minus_sign) part i j (wrote-set minus_sign seen start old i h w) (rw (add-zero i) at v)))
wrote-signed (negsuc n) t old part i j h v seen start w =
    rw (append_assoc seen (minus_sign ∷ []) (digits (suc n) ++ t))
    at (wrote_then (seen ++ minus_sign ∷ []) (digits (suc n) ++ t) start (set old i minus_sign) part (i + 1) j (wrote-next minus_sign seen start old i h w) v)
