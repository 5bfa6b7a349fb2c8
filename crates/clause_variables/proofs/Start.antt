-- What only one of the two starts of a memory has, as a writer tells them: the initial word is given where `unknown_start` is 0. No
-- contract cites this file.
use Prim.Native.Nat.{ℕ, ◌*◌, ◌≤◌}
use mathlib.Core.Path.{◌≡◌}
use native.Mathlib.Omega.{arith}
use Rattle.model.specs.Netlist.{start_of}
use Rattle.model.specs.Counts.{where_given, where_unknown}
use Rattle.model.proofs.Start.{start-given, start-unknown}

-- all of it, or nothing
pub given-whole : (word u x : ℕ) → u ≡ 0 → where_given (start_of word u) x ≡ x
unfolding where_given
given-whole word u x e = rw (start-given word u e)

pub given_nothing : (word u x : ℕ) → u ≡ 0 → where_unknown (start_of word u) x ≡ 0
unfolding where_unknown
given_nothing word u x e = rw (start-given word u e)

pub unknown-whole : (word u x : ℕ) → (u ≡ 0 → ⊥) → where_unknown (start_of word u) x ≡ x
unfolding where_unknown
unknown-whole word u x h = rw (start-unknown word u h)

pub unknown-nothing : (word u x : ℕ) → (u ≡ 0 → ⊥) → where_given (start_of word u) x ≡ 0
unfolding where_given
unknown-nothing word u x h = rw (start-unknown word u h)

-- room for it, as `search` looks for it
pub room-given : (word u n l : ℕ) → where_given (start_of word u) (8 * n) ≤ l → u ≡ 0 → n * 8 ≤ l
room-given word u n l h e = omega (arith, given-whole word u (8 * n) e)

pub room-unknown : (word u n l : ℕ) → where_unknown (start_of word u) (12 * n) ≤ l → (u ≡ 0 → ⊥) → n * 12 ≤ l
room-unknown word u n l h e = omega (arith, unknown-whole word u (12 * n) e)
