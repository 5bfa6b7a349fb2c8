-- Laws of two numbers put at a record's place in an unpacked list (specs/NetOf.antt): its length, and its first and second numbers then.
-- Cited by the reader of sheets.
use Prim.Native.Nat.{ℕ, ◌+◌, ◌*◌, ◌<◌}
use mathlib.Core.Path.{◌≡◌, ◌∙◌, fun_ext}
use mathlib.Core.Bool.{cond}
use mathlib.Core.List.{List}
use mathlib.Core.Logic.{by_cases}
use native.Mathlib.Decide.{ℕ_discrete}
use native.Mathlib.Omega.{arith}
use lib.Dec.{eqb}
use lib.ListN.{length, set, length-set}
use lib.Seq.{get_or-set_same, get_or-set_other}
use borrow.Author.Tests.{eq-eqb, ne_eqb}
use Rattle.netlist.specs.NetOf.{first_at, second_at, put_numbers}

pub length-put_numbers : (xs : List ℕ) (i x y : ℕ) → length (put_numbers i x y xs) ≡ length xs
unfolding put_numbers
length-put_numbers xs i x y = simp length-set

module _ (xs : List ℕ) (i x y : ℕ) (full : length xs ≡ 1200) (h : i < 600) where
  pub first_at-put_numbers : first_at (put_numbers i x y xs) ≡ (λ j. cond (eqb i j) x (first_at xs j))
  unfolding put_numbers
  first_at-put_numbers = fun_ext (λ j.
      get_or-set_other (set xs (2 * i) x) (2 * i + 1) (2 * j) y 0 (λ e. omega arith)
      ∙ by_cases (ℕ_discrete i j)
      (λ e. rw (eq-eqb i j e, ← e) (get_or-set_same xs (2 * i) x 0 (omega arith)))
      (λ e. rw (ne_eqb i j e) (get_or-set_other xs (2 * i) (2 * j) x 0 (λ q. e (omega arith)))))

  pub second_at-put_numbers : second_at (put_numbers i x y xs) ≡ (λ j. cond (eqb i j) y (second_at xs j))
  unfolding put_numbers
  second_at-put_numbers = fun_ext (λ j.
      by_cases (ℕ_discrete i j)
      (λ e. rw (eq-eqb i j e, ← e) (get_or-set_same (set xs (2 * i) x) (2 * i + 1) y 0 (omega (arith, length-set xs (2 * i) x))))
      (λ e. rw (ne_eqb i j e)
      (get_or-set_other (set xs (2 * i) x) (2 * i + 1) (2 * j + 1) y 0 (λ q. e (omega arith))
      ∙ get_or-set_other xs (2 * i) (2 * j + 1) x 0 (λ q. omega arith))))
