-- Records delivered into the front of a lent list (RULES T45, "only the first L and the first A records of the lent lists
-- change"). Cited by the functions that deliver and by specs/ListsBeside.
use Rattle.std.specs.Prelude.{ℕ, List, [], ◌∷◌}
use Rattle.model.specs.Gather.{gather}
use Rattle.model.specs.Wrote.{over}

-- the first n records of f
abbrev pub first_records : {A : Type 0} → ℕ → (ℕ → A) → List A
first_records n f = gather n (λ t. f t ∷ [])

-- those in front, everything behind untouched
unfoldable pub delivered : {A : Type 0} → ℕ → (ℕ → A) → List A → List A
delivered n f old = over (first_records n f) old
