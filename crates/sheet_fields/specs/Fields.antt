-- A field of ten columns as it is read (RULES S2 and S3). Its text is `field` or `empty_field` of decimal/specs/Digits.
-- Cited by `after_spaces`, `read_field` and the functions that read a line.
use Rattle.std.specs.Prelude.{ℕ, cond, Option, Some, None, List, [], ◌∷◌, eqb}
use Rattle.decimal.specs.Digits.{space}
use Rattle.decimal.specs.TextValue.{number_in}
use Rattle.sheet_fields.specs.declared.Field.{Field}
use Rattle.sheet_fields.specs.declared.Field.TheVariants.{Empty, Filled, Misprinted}

-- RULES S9: "the digits of a field are answered as a part of the line"; what stands behind the leading spaces
unfoldable pub drop_spaces : List ℕ → List ℕ
drop_spaces [] = []
drop_spaces (c ∷ s) = cond (eqb c space) (drop_spaces s) (c ∷ s)

-- a number, or neither a number nor empty
unfoldable pub filled_with : Option ℕ → Field
filled_with (Some x) = Filled x
filled_with None = Misprinted

-- the same of what stands behind the spaces: nothing is an empty field
unfoldable pub behind_spaces : List ℕ → Field
behind_spaces [] = Empty
behind_spaces (c ∷ s) = filled_with (number_in (c ∷ s))

-- what a field is read as
unfoldable pub field_of : List ℕ → Field
field_of f = behind_spaces (drop_spaces f)
