-- Laws of the test of one number: by its parts, and by whether a start word is given. No contract cites this file.
use Prim.Native.Nat.{ℕ, zero, suc, ◌-◌, ◌≤◌, ◌<◌}
use mathlib.Core.Path.{◌≡◌, refl}
use mathlib.Core.Bool.{Bool, true, false, beq}
use native.Mathlib.Omega.{arith}
use lib.Dec.{eqb}
use lib.IntN.{ℤ, pos, negsuc}
use borrow.Author.Tests.{lt-ltb, le-ltb}
use Rattle.model.specs.Bits.{bit}
use Rattle.model.specs.Netlist.{Netlist, start_of}
use Rattle.text_writer.specs.Signed.{parts_of}
use Rattle.refutation_hints.specs.Propagation.{within}
use Rattle.invariant_formula.specs.AtStart.{word_starts, bit_starts, number_starts}

pub word-given : (word u t : ℕ) (value : Bool) → u ≡ 0 → beq (bit word t) value ≡ word_starts (start_of word u) t value
unfolding start_of word_starts
word-given word zero t value e = refl
word-given word (suc u) t value e = absurd (omega arith)

pub word-unknown : (word u t : ℕ) (value : Bool) → (u ≡ 0 → ⊥) → false ≡ word_starts (start_of word u) t value
unfolding start_of word_starts
word-unknown word zero t value e = absurd (e refl)
word-unknown word (suc u) t value e = refl

pub number-zero : (c : Netlist) (z : ℤ) → (parts_of z).value ≡ 0 → bit_starts c 0 true ≡ number_starts c z
unfolding number_starts
number-zero c (pos zero) e = refl
number-zero c (pos (suc v)) e = absurd (omega (arith, e))
number-zero c (negsuc v) e = absurd (omega (arith, e))

pub number-parts : (c : Netlist) (z : ℤ) → bit_starts c ((parts_of z).value - 1) (eqb (parts_of z).sign 0) ≡ number_starts c z
unfolding number_starts
number-parts c (pos v) = refl
number-parts c (negsuc v) = refl

pub outside : (b : ℕ) (z : ℤ) → b < (parts_of z).value → within (suc b) z ≡ false
unfolding within
outside b (pos v) h = le-ltb v (suc b) h
outside b (negsuc v) h = le-ltb (suc v) (suc b) h

pub inside : (b : ℕ) (z : ℤ) → (parts_of z).value ≤ b → within (suc b) z ≡ true
unfolding within
inside b (pos v) h = lt-ltb v (suc b) (omega arith)
inside b (negsuc v) h = lt-ltb (suc v) (suc b) (omega arith)
