-- Lists joined for each number below another: clauses by latch, gate, bit or frame (RULES G3 to G14), groups by frame and, from the last
-- down, by pair (RULES G15). Cited by the definitions of clauses and groups, and by those of lists of records.
use Rattle.std.specs.Prelude.{ℕ, zero, suc, List, [], ◌++◌}

-- f 0 to f (n - 1), joined; and the same from f (n - 1) down to f 0
unfoldable pub gather {ℓ} : {A : Type ℓ} → ℕ → (ℕ → List A) → List A
gather zero f = []
gather (suc n) f = gather n f ++ f n

unfoldable pub gather_down {ℓ} : {A : Type ℓ} → ℕ → (ℕ → List A) → List A
gather_down zero f = []
gather_down (suc n) f = f n ++ gather_down n f
