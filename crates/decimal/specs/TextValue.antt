-- The number that a text stands for: reading as the inverse of `digits`. Cited by `read_number` and by
-- sheet_fields/specs/Fields.
use Rattle.std.specs.Prelude.{ℕ, ◌+◌, ◌-◌, ◌*◌, ◌^◌, Bool, true, false, cond, ◌&&◌, Option, Some, None, List, [], ◌∷◌, eqb, ltb}
use Rattle.decimal.specs.Digits.{digits}

-- whether two texts are the same
unfoldable pub same_text : List ℕ → List ℕ → Bool
same_text [] [] = true
same_text [] (d ∷ t) = false
same_text (c ∷ s) [] = false
same_text (c ∷ s) (d ∷ t) = eqb c d && same_text s t

-- the value of a text's bytes taken as digits, behind digits of the value v
unfoldable pub value_after : ℕ → List ℕ → ℕ
value_after v [] = v
value_after v (c ∷ s) = value_after (v * 10 + (c - 48)) s

-- RULES S2: "at most 4,294,967,295"; the number whose digits the text is. Its value is the only number whose digits it can be
unfoldable pub number_in : List ℕ → Option ℕ
number_in s =
    cond (same_text s (digits (value_after 0 s)) && ltb (value_after 0 s) (2 ^ 32)) (Some (value_after 0 s)) None
