-- `decimal::fill_digits` meets its contract. The loop's invariant: the digits of `rest`, which are still to be written before `at`, with
-- everything else as it is, are the digits of x at the end of what was there.

use Prim.Native.Nat.{ℕ, ◌+◌, ◌-◌, ◌/◌, ◌%◌}
use mathlib.Core.Path.{◌≡◌, sym, ap, ◌∙◌}
use mathlib.Core.List.{List, [], ◌∷◌, ◌++◌}
use native.Mathlib.Omega.{arith}
use lib.ListN.{length, length-append, set, length-set}
use Rattle.decimal.specs.Digits.{digit, digits}
use Rattle.decimal.proofs.Digits.{digits-single, digits-snoc, length-digits-some}
use Rattle.decimal.proofs.WroteAtEnd.{ending_at, ending_at-nothing, ending_at-write}
use Rattle.decimal.proofs.fill_digits.Goals as goal

pub overflow_sub-at : goal.overflow_sub-at
overflow_sub-at c = omega (arith, length-digits-some c.loop-rest.rest)

pub bounds-out-at : goal.bounds-out-at
bounds-out-at c = omega (arith, length-digits-some c.loop-rest.rest)

pub loop-rest-preserved : goal.loop-rest-preserved
loop-rest-preserved c =
    let rest : ℕ = c.loop-rest.rest in
    let split : digits rest ≡ digits (rest / 10) ++ digit (rest % 10) ∷ [] = digits-snoc rest (omega arith) in
    let one : length (digits rest) ≡ length (digits (rest / 10)) + 1 = ap length split ∙ length-append (digits (rest / 10)) (digit (rest % 10) ∷ []) in (
      simp length-set (omega arith),
      simp length-set (omega arith),
      omega (arith, one),
      simp length-set (omega (arith, one)),
      ending_at-write c.loop-rest.at (digit (rest % 10)) (digits (rest / 10)) c.loop-rest.out (omega (arith, one)) (omega arith)
          ∙ ap (λ (s : List ℕ). ending_at c.loop-rest.at s c.loop-rest.out) (sym split) ∙ c.loop-rest.invariant.4,
    )

pub overflow_sub-at-2 : goal.overflow_sub-at-2
overflow_sub-at-2 c = omega (arith, length-digits-some c.loop-rest.rest)

pub bounds-out-at-2 : goal.bounds-out-at-2
bounds-out-at-2 c = omega (arith, length-digits-some c.loop-rest.rest)

pub returns : goal.returns
returns c =
    let rest : ℕ = c.loop-rest.rest in
    let single : digits rest ≡ digit rest ∷ [] = digits-single rest (omega arith) in
    let one : length (digits rest) ≡ 1 = ap length single in
    record {
      counted = simp length-set (omega (arith, one));
      leaves =
          sym (ending_at-nothing (c.loop-rest.at - 1) (set c.loop-rest.out (c.loop-rest.at - 1) (digit rest)))
          ∙ ending_at-write c.loop-rest.at (digit rest) [] c.loop-rest.out (omega (arith, one)) (omega arith)
          ∙ ap (λ (s : List ℕ). ending_at c.loop-rest.at s c.loop-rest.out) (sym single) ∙ c.loop-rest.invariant.4;
    }
