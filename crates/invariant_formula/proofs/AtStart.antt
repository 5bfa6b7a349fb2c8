-- Laws of specs/AtStart.antt: what passes the test of the start is true in every state that a run may begin in. No contract cites this file.
use Prim.Native.Nat.{ℕ, suc, ◌+◌, ◌-◌, ◌/◌, ◌%◌}
use mathlib.Core.Path.{◌≡◌, refl, ◌∙◌, ap}
use mathlib.Core.Bool.{Bool, true, false, cond, not, beq, false≢true}
use mathlib.Core.List.{List}
use lib.Dec.{eqb, ltb}
use lib.IntN.{ℤ, pos, negsuc}
use borrow.Author.Tests.{ltb-true}
use Rattle.model.specs.Bits.{bit}
use Rattle.model.specs.Netlist.{Netlist, Start, given, unknown, start, read_bits}
use Rattle.model.specs.Circuit.{State, Begins, Starts}
use Rattle.model.specs.Numbers.{number_true}
use Rattle.model.proofs.Booleans.{and-true, beq-true}
use Rattle.refutation_hints.specs.Propagation.{every, within}
use Rattle.invariant_terms.specs.StateBits.{state_count}
use Rattle.invariant_terms.proofs.StateBits.{state_bit, state_value}
use Rattle.invariant_terms.specs.Walk.{holds_in}
use Rattle.invariant_terms.proofs.Walk.{holds-weaken}
use Rattle.invariant_formula.specs.AtStart.{word_starts, bit_starts, number_starts, holds_at_start}

word-starts : (n : ℕ) (x : Start) (memory : ℕ → ℕ) → Begins n x memory → (y t : ℕ) (value : Bool) → word_starts x t value ≡ true → bit (memory y) t ≡ value
unfolding Begins word_starts
word-starts n (given word) memory b y t value e = rw (b y) ((beq-true (bit word t) value).0 e)
word-starts n unknown memory b y t value e = absurd (false≢true e)

module _ (c : Netlist) (s : State) (starts : Starts c s) where
  bit-starts : (j : ℕ) (value : Bool) → bit_starts c j value ≡ true → state_bit c s j ≡ value
  unfolding bit_starts state_bit
  bit-starts j value = go (ltb j c.latches) refl (ltb j (c.latches + read_bits c))
    where
      y : ℕ
      y = j - c.latches - read_bits c

      go : (p : Bool) → ltb j c.latches ≡ p → (q : Bool)
          → cond p (beq (eqb (c.reset j) 1) value) (cond q false (word_starts (start c) (y % c.n) value)) ≡ true
          → cond p (s.latch j) (cond q (s.held (j - c.latches)) (bit (s.memory (y / c.n)) (y % c.n))) ≡ value
      go true l q e = starts.at-reset j (ltb-true j c.latches l) ∙ (beq-true (eqb (c.reset j) 1) value).0 e
      go false l true e = absurd (false≢true e)
      go false l false e = word-starts c.n (start c) s.memory starts.begins (y / c.n) (y % c.n) value e

  number-starts : (z : ℤ) → number_starts c z ≡ true → number_true (state_value c s) z ≡ true
  unfolding number_starts number_true state_value
  number-starts (pos v) e = bit-starts (v - 1) true e
  number-starts (negsuc v) e = ap not (bit-starts (suc v - 1) false e)

  pub holds-at-start : (zs : List ℤ) → holds_at_start c zs ≡ true → holds_in (number_true (state_value c s)) false zs ≡ true
  unfolding holds_at_start
  holds-at-start zs e =
      holds-weaken (number_starts c) (number_true (state_value c s)) false false zs number-starts (λ p. p)
      ((and-true (every (within (suc (state_count c))) zs) (holds_in (number_starts c) false zs)).0 e).1
