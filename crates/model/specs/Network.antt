-- Gates as equations over numbers of variables, whoever numbered them: what a list of AND gates says of the values of its
-- variables, and a code under other numbers. Codes are made of variables as of wires (RULES W3); variable 0 is constantly false.
-- Cited by what is said of a circuit that another format numbers in its own way.
use Rattle.std.specs.Prelude.{ℕ, ◌+◌, ◌*◌, ◌/◌, ◌%◌, ◌<◌, ◌≡◌, false, ◌&&◌}
use Rattle.model.specs.Circuit.{Values, code_value}

-- so many gates; the variable that each defines, and its two codes
pub record Network : Type 0 where
  pub gates : ℕ
  pub own : ℕ → ℕ
  pub left : ℕ → ℕ
  pub right : ℕ → ℕ

-- values that obey the gates' equations
pub record Obeys (h : Network) (v : Values) : Type 0 where
  pub at_zero : v 0 ≡ false
  pub at-gate : (g : ℕ) → g < h.gates → v (h.own g) ≡ (code_value v (h.left g) && code_value v (h.right g))

-- a code, where variable x has the number ρ x
unfoldable pub renamed : (ℕ → ℕ) → ℕ → ℕ
renamed ρ x = 2 * ρ (x / 2) + x % 2
