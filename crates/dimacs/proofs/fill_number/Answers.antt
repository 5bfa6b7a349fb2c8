-- `dimacs::fill_number` meets its contract: the digits at the end, and a minus before them where the parts have a sign.

use Prim.Native.Nat.{◌+◌, ◌<◌}
use mathlib.Core.Path.{◌≡◌, sym, ap, ◌∙◌}
use mathlib.Core.List.{◌∷◌}
use native.Mathlib.Omega.{arith}
use lib.ListN.{length}
use Rattle.decimal.specs.Digits.{minus_sign, digits, signed_digits}
use Rattle.decimal.proofs.WroteAtEnd.{filled-before}
use Rattle.decimal.proofs.Signed.{read_back}
use Rattle.text_writer.specs.Signed.{parts_of}
use Rattle.text_writer.specs.declared.Parts.{Parts}
use Rattle.text_writer.proofs.Signed.{length-parts, signed_digits-plain, signed_digits-minus}
use Rattle.dimacs.proofs.fill_number.Goals as goal
use Rattle.dimacs.proofs.fill_number.Goals.{After-parts_of-parts, Else-parts-eq0}

-- the parts are the number's
parts_are : (c : After-parts_of-parts) → c.parts_of-parts.result ≡ parts_of c.args.z
parts_are c =
    c.parts_of-parts.ensures ∙ ap parts_of (read_back c.args.z c.ranges.z)

-- sign and digits are the number
parts-length : (c : After-parts_of-parts) → length (signed_digits c.args.z) ≡ c.parts_of-parts.result.sign + length (digits c.parts_of-parts.result.value)
parts-length c =
    length-parts c.args.z ∙ ap (λ (p : Parts). p.sign + length (digits p.value)) (sym (parts_are c))

-- where the digits have a sign, a byte is left before them
byte_left :
    (c : Else-parts-eq0) → c.fill_digits-count.result < length c.args.out.now
byte_left c =
    let is = c.parts_of-parts.ensures ∙ ap parts_of (read_back c.args.z c.ranges.z) in
    let long = length-parts c.args.z ∙ ap (λ (p : Parts). p.sign + length (digits p.value)) (sym is) in
    omega (arith, long, c.requires, c.fill_digits-count.ensures.counted, c.if-parts-eq0.false)

pub fill_digits-count-requires : goal.fill_digits-count-requires
fill_digits-count-requires c = omega (arith, parts-length (goal.at.fill_digits-count-requires c).After-parts_of-parts, c.requires)

pub returns-then-parts-eq0 : goal.returns-then-parts-eq0
returns-then-parts-eq0 c =
    let e = sym (parts_are (goal.at.returns-then-parts-eq0 c).After-parts_of-parts) in
    let text : signed_digits c.args.z ≡ digits c.parts_of-parts.result.value =
    signed_digits-plain c.args.z (ap (λ (p : Parts). p.sign) e ∙ c.if-parts-eq0.true) ∙ ap (λ (p : Parts). digits p.value) e in
    rw text c.fill_digits-count.ensures

pub overflow_sub-out : goal.overflow_sub-out
overflow_sub-out c = omega (arith, byte_left c, c.fill_digits-count.auto.out)

pub bounds-out-before : goal.bounds-out-before
bounds-out-before c = omega (arith, byte_left c, c.fill_digits-count.auto.out)

pub returns : goal.returns
returns c =
    let e = sym (parts_are (goal.at.returns c).After-parts_of-parts) in
    let sign-is : (parts_of c.args.z).sign ≡ c.parts_of-parts.result.sign = ap (λ (p : Parts). p.sign) e in
    let some : 0 < (parts_of c.args.z).sign = omega (arith, sign-is, c.if-parts-eq0.false) in
    let text : signed_digits c.args.z ≡ minus_sign ∷ digits c.parts_of-parts.result.value =
    signed_digits-minus c.args.z some ∙ ap (λ (p : Parts). minus_sign ∷ digits p.value) e in
    rw text (filled-before c.fill_digits-count.ensures minus_sign (byte_left c))
