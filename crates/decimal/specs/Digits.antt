-- The decimal text of a number and the field of ten columns (RULES S2 and S3): the one definition by which numbers are
-- written and read. A text is a list of bytes. Cited by every function that reads or writes a number.
use Rattle.std.specs.Prelude.{ℕ, zero, suc, ◌+◌, ◌-◌, ◌/◌, ◌%◌, cond, List, [], ◌∷◌, ◌++◌, ltb, ℤ, pos, negsuc, length, replicate}

-- the bytes of a digit, of a space, of a minus and of the end of a line
abbrev pub digit : ℕ → ℕ
digit d = 48 + d

abbrev pub space : ℕ
space = 32

abbrev pub minus_sign : ℕ
minus_sign = 45

abbrev pub line_feed : ℕ
line_feed = 10

-- the digits of x, by at most n divisions
unfoldable pub digits_within : ℕ → ℕ → List ℕ
digits_within zero x = []
digits_within (suc n) x = cond (ltb x 10) [] (digits_within n (x / 10)) ++ digit (x % 10) ∷ []

-- RULES S2: "decimal, .. without leading zeros, .. Zero is one `0`". More divisions than x are never needed
unfoldable pub digits : ℕ → List ℕ
digits x = digits_within (suc x) x

-- RULES S2: "at the right end of the field behind spaces", in ten columns
unfoldable pub field : ℕ → List ℕ
field x = replicate (10 - length (digits x)) space ++ digits x

-- RULES S3: "An empty field is ten spaces"
abbrev pub empty_field : List ℕ
empty_field = replicate 10 space

-- a clause number: a minus only below zero
unfoldable pub signed_digits : ℤ → List ℕ
signed_digits (pos x) = digits x
signed_digits (negsuc x) = minus_sign ∷ digits (suc x)
