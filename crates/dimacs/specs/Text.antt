-- The bytes that `frames` prints (RULES P2 and P3): header, clauses, refusal. A text is a list of
-- bytes. Cited by every function that writes one.
use Rattle.std.specs.Prelude.{ℕ, zero, suc, ◌≤◌, ◌<◌, ◌≡◌, List, [], ◌∷◌, ◌++◌, ℤ, pos, negsuc, length, get_or}
use Rattle.decimal.specs.Digits.{space, minus_sign, line_feed, digits, field, signed_digits}
use Rattle.decimal.specs.SignedValue.{signed_value}

-- the bytes of `p cnf` and a space
abbrev pub problem : List ℕ
problem = 112 ∷ space ∷ 99 ∷ 110 ∷ 102 ∷ space ∷ []

-- the bytes of `refused`
abbrev pub refused : List ℕ
refused = 114 ∷ 101 ∷ 102 ∷ 117 ∷ 115 ∷ 101 ∷ 100 ∷ []

-- RULES P2: "`p cnf`, the number of variables, the number of clauses", on a line, single spaces
unfoldable pub header_text : ℕ → ℕ → List ℕ
header_text variables clauses = problem ++ (digits variables ++ space ∷ []) ++ (digits clauses ++ line_feed ∷ [])

-- what stands behind a number: a single space, and behind the end mark 0 a line feed
abbrev pub behind : ℤ → ℕ
behind (pos zero) = line_feed
behind (pos (suc v)) = space
behind (negsuc v) = space

-- a number and the byte behind it
abbrev pub number_text : ℤ → List ℕ
number_text z = signed_digits z ++ behind z ∷ []

-- RULES P2: "then one clause a line, with single spaces between its numbers"; numbers with end marks. Every number has its text,
-- whether it is a clause number or not
unfoldable pub clause_text : List ℤ → List ℕ
clause_text [] = []
clause_text (z ∷ zs) = number_text z ++ clause_text zs

-- Numbers that make no clause: an end mark behind no number is a line of its own, what stands behind the last end mark has no line
-- feed, and −2,147,483,648, which is no clause number, is printed in decimal as any other is.
pub record OtherNumbers : Type 0 where
  pub end-alone : clause_text (pos 0 ∷ []) ≡ 48 ∷ line_feed ∷ []
  pub not-ended : clause_text (pos 7 ∷ []) ≡ 55 ∷ space ∷ []
  pub least : clause_text (negsuc 2147483647 ∷ []) ≡ 45 ∷ 50 ∷ 49 ∷ 52 ∷ 55 ∷ 52 ∷ 56 ∷ 51 ∷ 54 ∷ 52 ∷ 56 ∷ space ∷ []

-- RULES L10: a number's decimal is what is printed of it where it stands among clauses, up to the byte behind it; its digits have the
-- number's value, a minus stands only below zero, there are no leading zeros, and zero is `0`
pub record NumberPrinted : Type 0 where
  pub printed : (z : ℤ) → clause_text (z ∷ []) ≡ signed_digits z ++ behind z ∷ []
  pub value : (z : ℤ) → signed_value (signed_digits z) ≡ z
  pub only-digits : (x i : ℕ) → i < length (signed_digits (pos x)) → (48 ≤ get_or (signed_digits (pos x)) i 0) × (get_or (signed_digits (pos x)) i 0 ≤ 57)
  pub minus-below : (x : ℕ) → signed_digits (negsuc x) ≡ minus_sign ∷ signed_digits (pos (suc x))
  pub no-leading-zero : (x : ℕ) → 48 < get_or (signed_digits (pos (suc x))) 0 0
  pub zero-alone : signed_digits (pos 0) ≡ 48 ∷ []

-- RULES P3: "`refused`, the number and the place, each of these in ten columns .. nothing between .. and a line feed"
unfoldable pub refusal_text : ℕ → ℕ → List ℕ
refusal_text number place = refused ++ field number ++ field place ++ line_feed ∷ []
