-- A number in bytes of seven bits each, the lowest first (the AIGER report of 2007; RULES X4). That it is read back is the law `difference-read` in
-- proofs/Difference.antt. Cited by `difference_length` and `put_difference`, and by what is said of a binary file.
use Rattle.std.specs.Prelude.{ℕ, zero, suc, ◌+◌, ◌/◌, ◌%◌, cond, List, [], ◌∷◌, ltb}

-- the bytes of x, by at most n divisions
unfoldable pub bytes_within : ℕ → ℕ → List ℕ
bytes_within zero x = []
bytes_within (suc n) x = cond (ltb x 128) (x ∷ []) ((128 + x % 128) ∷ bytes_within n (x / 128))

-- the bytes of x. More divisions than x are never needed
unfoldable pub difference_bytes : ℕ → List ℕ
difference_bytes x = bytes_within (suc x) x
