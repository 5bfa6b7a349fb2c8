-- Laws of the start of a memory (`start_of` of specs/Netlist.antt), by the number that says whether it is unknown: all else that is said of
-- a start goes by the first two. No contract cites this file.
use Prim.Native.Nat.{ℕ, zero, suc}
use mathlib.Core.Path.{◌≡◌, refl}
use mathlib.Core.Bool.{true, false}
use native.Mathlib.Omega.{arith}
use Rattle.model.specs.Netlist.{given, unknown, is_unknown, start_of}
use Rattle.model.specs.Agree.{given_word}

pub start-given : (word u : ℕ) → u ≡ 0 → start_of word u ≡ given word
unfolding start_of
start-given word zero e = refl
start-given word (suc u) e = absurd (omega arith)

pub start-unknown : (word u : ℕ) → (u ≡ 0 → ⊥) → start_of word u ≡ unknown
unfolding start_of
start-unknown word zero h = absurd (h refl)
start-unknown word (suc u) h = refl

-- the word that is given
pub given_word_lem : (word u : ℕ) → u ≡ 0 → given_word (start_of word u) ≡ word
unfolding given_word
given_word_lem word u e = rw (start-given word u e)

pub unknown-word : (word u : ℕ) → (u ≡ 0 → ⊥) → given_word (start_of word u) ≡ 0
unfolding given_word
unknown-word word u h = rw (start-unknown word u h)

-- whether it is unknown
pub given-is-known : (word u : ℕ) → u ≡ 0 → is_unknown (start_of word u) ≡ false
unfolding is_unknown
given-is-known word u e = rw (start-given word u e)

pub unknown-is-unknown : (word u : ℕ) → (u ≡ 0 → ⊥) → is_unknown (start_of word u) ≡ true
unfolding is_unknown
unknown-is-unknown word u h = rw (start-unknown word u h)
