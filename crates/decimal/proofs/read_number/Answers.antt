-- `decimal::read_number` meets its contract. The loop's invariant: the value taken in so far has at most as many digits as bytes are
-- read, and with the rest of the text it makes the value, and the test for digits, of the whole.

use Prim.Native.Nat.{ℕ, ◌≤◌, ◌<◌}
use mathlib.Core.Path.{◌≡◌, sym, ap, ◌∙◌}
use mathlib.Core.Bool.{true, false}
use mathlib.Core.List.{List}
use native.Mathlib.Nat.{pow-suc}
use native.Mathlib.Numerals.{add-one}
use native.Mathlib.Omega.{arith}
use lib.ListN.{length, get_or, drop}
use Rattle.std.specs.Prelude.{Some}
use Rattle.decimal.specs.TextValue.{value_after}
use Rattle.decimal.proofs.Digits.{length-digits-some, length-digits-ten}
use Rattle.decimal.proofs.TextValue.{all_digits, is_digit, number_in-other, number_in-zero, number_in-no-digit, number_in-above, number_in-value, value_after-next, value_after-end, all_digits-next, all_digits-end, is_digit-outside, is_digit-inside}
use Rattle.decimal.proofs.read_number.Goals as goal

-- a byte at i that is no digit
stopped :
    (s : List ℕ) (i : ℕ) → i < length s → all_digits (drop i s) ≡ all_digits s → is_digit (get_or s i 0) ≡ false → all_digits s ≡ false
stopped s i h same other = sym same ∙ all_digits-next s i h ∙ rw other

-- the value taken in at the end is that of the whole
taken_in : (s : List ℕ) (i v : ℕ) → length s ≤ i → value_after v (drop i s) ≡ value_after 0 s → v ≡ value_after 0 s
taken_in s i v h same = sym (value_after-end s i v h) ∙ same

pub returns-then-text-eq0 : goal.returns-then-text-eq0
returns-then-text-eq0 c =
    sym (number_in-other c.args.text.now (λ x h e. omega (arith, length-digits-some x, length-digits-ten x h, ap length e)))

pub returns-then-text-gt1 : goal.returns-then-text-gt1
returns-then-text-gt1 c = sym (number_in-zero c.args.text.now (omega arith) c.if-text-eq48.true)

pub returns-then-c-lt48 : goal.returns-then-c-lt48
returns-then-c-lt48 c =
    let text = c.args.text.now in
    sym (number_in-no-digit text (stopped text c.loop-c.c-index (omega arith) c.loop-c.invariant.2 (is_digit-outside (get_or text c.loop-c.c-index 0) (λ l. omega arith))))

pub loop-c-preserved : goal.loop-c-preserved
loop-c-preserved c =
    let text = c.args.text.now in
    let byte : ℕ = get_or text c.loop-c.c-index 0 in
    let inside : is_digit byte ≡ true = is_digit-inside byte (omega arith) (omega arith) in (
      rw (add-one, pow-suc) (omega arith),
      value_after-next text c.loop-c.c-index c.loop-c.value (omega arith) ∙ c.loop-c.invariant.1,
      sym (all_digits-next text c.loop-c.c-index (omega arith) ∙ rw inside) ∙ c.loop-c.invariant.2,
    )

pub returns-then-value-gt4294967295 : goal.returns-then-value-gt4294967295
returns-then-value-gt4294967295 c =
    let text = c.args.text.now in
    sym (number_in-above text (omega (arith, taken_in text c.loop-c.c-index c.loop-c.value (omega arith) c.loop-c.invariant.1)))

pub overflow_cast-result : goal.overflow_cast-result
overflow_cast-result c = omega arith

pub returns : goal.returns
returns c =
    let text = c.args.text.now in
    let value-is : c.loop-c.value ≡ value_after 0 text = taken_in text c.loop-c.c-index c.loop-c.value (omega arith) c.loop-c.invariant.1 in
    ap Some value-is
    ∙ sym
    (number_in-value text (omega arith)
    (sym c.loop-c.invariant.2 ∙ all_digits-end text c.loop-c.c-index (omega arith))
    (λ (l : 1 < length text) (z : get_or text 0 0 ≡ 48). omega arith)
    (omega arith))
