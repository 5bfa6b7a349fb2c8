-- Whether every clause in a list of numbers has a number that passes a test, number by number (RULES H3). Cited by the test of the start and by the terms of
-- a step.
use Rattle.std.specs.Prelude.{zero, suc, Bool, true, false, cond, ◌&&◌, ◌||◌, List, [], ◌∷◌, ℤ, pos, negsuc}

unfoldable pub is_end : ℤ → Bool
is_end (pos zero) = true
is_end (pos (suc v)) = false
is_end (negsuc v) = false

-- `found`: whether one has passed since the end mark before. A clause that no end mark ends is none
unfoldable pub holds_in : (ℤ → Bool) → Bool → List ℤ → Bool
holds_in t found [] = true
holds_in t found (z ∷ zs) = cond (is_end z) (found && holds_in t false zs) (holds_in t (found || t z) zs)
