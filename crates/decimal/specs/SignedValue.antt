-- The clause number (RULES W4) that a word stands for: reading as the inverse of `signed_digits`. The 0 that ends a clause is read too.
-- Cited by `read_clause_number` and by dimacs/specs/Text.
use Rattle.std.specs.Prelude.{ℕ, ◌^◌, cond, ◌&&◌, Option, Some, None, List, [], ◌∷◌, eqb, ltb, ℤ, pos, neg_ℤ, nat_abs}
use Rattle.decimal.specs.Digits.{minus_sign, signed_digits}
use Rattle.decimal.specs.TextValue.{same_text, value_after}

-- the value of a text's bytes taken as digits, below zero behind a minus
unfoldable pub signed_value : List ℕ → ℤ
signed_value [] = pos 0
signed_value (c ∷ s) = cond (eqb c minus_sign) (neg_ℤ (pos (value_after 0 s))) (pos (value_after 0 (c ∷ s)))

-- the number of 31 bits and a sign whose `signed_digits` the text is. Its value is the only number whose digits it can be
unfoldable pub clause_number_in : List ℕ → Option ℤ
clause_number_in s =
    cond (same_text s (signed_digits (signed_value s)) && ltb (nat_abs (signed_value s)) (2 ^ 31)) (Some (signed_value s)) None
