-- The bits of a state by their numbers, and which bit a number is: laws of specs/StateBits.antt. No contract cites this file.
use Prim.Native.Nat.{ℕ, suc, ◌+◌, ◌-◌, ◌*◌, ◌/◌, ◌%◌, ◌^◌, ◌≤◌, ◌<◌}
use mathlib.Core.Path.{◌≡◌, ◌∙◌, ap}
use mathlib.Core.Bool.{Bool, cond}
use native.Mathlib.Omega.{arith}
use native.Mathlib.Nat.{add-zero, suc-mul, mul-le-mul_right, mul-add-div_right, mul-add-mod_self_right, div-eq_of_lt, mod-eq_of_lt}
use lib.Dec.{ltb}
use borrow.Author.Tests.{lt-ltb, le-ltb}
use Rattle.model.specs.Bits.{bit}
use Rattle.model.specs.Netlist.{Netlist, read_bits}
use Rattle.model.specs.Circuit.{State}
use Rattle.model.specs.Numbers.{Assignment}
use Rattle.invariant_terms.specs.StateBits.{state_count, held_bit, word_bit}

unfoldable pub state_bit : Netlist → State → ℕ → Bool
state_bit c s j =
    let y = j - c.latches - read_bits c in
    cond (ltb j c.latches) (s.latch j)
    (cond (ltb j (c.latches + read_bits c)) (s.held (j - c.latches)) (bit (s.memory (y / c.n)) (y % c.n)))

-- a state as an assignment: variable j + 1 is bit j
unfoldable pub state_value : Netlist → State → Assignment
state_value c s u = state_bit c s (u - 1)

module _ (c : Netlist) (s : State) where
  pub latch-bit : (l : ℕ) → l < c.latches → state_bit c s l ≡ s.latch l
  unfolding state_bit
  latch-bit l h = rw (lt-ltb l c.latches h)

  pub held-bit : (r : ℕ) → r < read_bits c → state_bit c s (held_bit c r) ≡ s.held r
  unfolding state_bit held_bit
  held-bit r h =
      let e : c.latches + r - c.latches ≡ r = omega arith in
      rw (le-ltb (c.latches + r) c.latches (omega arith), lt-ltb (c.latches + r) (c.latches + read_bits c) (omega arith), e)

  pub word-bit : (x t : ℕ) → t < c.n → state_bit c s (word_bit c x t) ≡ bit (s.memory x) t
  unfolding state_bit word_bit
  word-bit x t h =
      let k : ℕ = c.latches + read_bits c in
      let e : k + (x * c.n + t) - c.latches - read_bits c ≡ x * c.n + t = omega arith in
      let positive : 0 < c.n = omega arith in
      let whole : (x * c.n + t) / c.n ≡ x = mul-add-div_right positive x t ∙ ap (λ (y : ℕ). x + y) (div-eq_of_lt h) ∙ add-zero x in
      let rest : (x * c.n + t) % c.n ≡ t = mul-add-mod_self_right x c.n t ∙ mod-eq_of_lt h in
      rw (le-ltb (k + (x * c.n + t)) c.latches (omega arith), le-ltb (k + (x * c.n + t)) k (omega arith), e, whole, rest)

module _ (c : Netlist) where
  pub latch-within : (l : ℕ) → l < c.latches → l < state_count c
  unfolding state_count
  latch-within l h = omega arith

  pub held-within : (r : ℕ) → r < read_bits c → held_bit c r < state_count c
  unfolding state_count held_bit
  held-within r h = omega arith

  pub word-within : (x t : ℕ) → x < 2 ^ c.m → t < c.n → word_bit c x t < state_count c
  unfolding state_count word_bit
  word-within x t h l =
      let most : suc x * c.n ≤ 2 ^ c.m * c.n = mul-le-mul_right c.n h in
      omega (arith, suc-mul x c.n)
