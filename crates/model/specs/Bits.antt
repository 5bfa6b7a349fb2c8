-- Bits of numbers. Bit 0 is the lowest bit (RULES W18). Cited by the circuit, by the numbering, by
-- `group_closing` and by `Lit::bit`.
use Rattle.std.specs.Prelude.{ℕ, zero, suc, ◌+◌, ◌/◌, ◌%◌, ◌^◌, Bool, cond, eqb}

-- whether a number is odd
unfoldable pub odd : ℕ → Bool
odd x = eqb (x % 2) 1

-- bit t of the number x
unfoldable pub bit : ℕ → ℕ → Bool
bit x t = odd (x / 2 ^ t)

-- the number of m bits f 0 to f (m - 1)
unfoldable pub from_bits : ℕ → (ℕ → Bool) → ℕ
from_bits zero f = 0
from_bits (suc m) f = from_bits m f + cond (f m) (2 ^ m) 0
