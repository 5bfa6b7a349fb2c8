-- Where a lemma in the store ends. Cited by the functions of this crate, and by no public contract.
use Rattle.std.specs.Prelude.{ℕ, zero, suc, List, [], ◌∷◌, ℤ, pos, negsuc}

-- how many numbers stand before the first end mark
unfoldable pub before_end : List ℤ → ℕ
before_end [] = 0
before_end (pos zero ∷ zs) = 0
before_end (pos (suc v) ∷ zs) = suc (before_end zs)
before_end (negsuc v ∷ zs) = suc (before_end zs)
