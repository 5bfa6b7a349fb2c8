-- The variables in which one step of the circuit is said (RULES H4), and terms. A term is a code over them: twice a variable, one more where it is negated.
-- None of this is believed: what the variables are is for proofs alone (proofs/StepValues).
use Rattle.std.specs.Prelude.{ℕ, suc, ◌+◌, ◌-◌, ◌*◌, ◌/◌, ◌%◌, cond, ℤ, pos, negsuc}
use Rattle.model.specs.Bits.{odd}

-- Variables are counted from 0 here. Behind the bits of the state, which are variables 0 to b - 1, five families take turns: the bits of the next state, the
-- wires, the address matches, and for each place of an invariant whether its clauses from there on fail behind the step, with none of the first clause's
-- numbers found yet, or one
unfoldable pub variable : ℕ → ℕ → ℕ → ℕ
variable b k j = b + 5 * j + k

-- terms: of a state's bit, of a variable of a family, of a code, and the opposite
unfoldable pub state_term : ℕ → ℕ
state_term j = 2 * j

unfoldable pub term : ℕ → ℕ → ℕ → ℕ
term b k j = 2 * variable b k j

unfoldable pub code_term : ℕ → ℕ → ℕ
code_term b x = term b 1 (x / 2) + x % 2

unfoldable pub opposite : ℕ → ℕ
opposite x = cond (odd x) (x - 1) (x + 1)

-- a term as a clause number
unfoldable pub number_of : ℕ → ℤ
number_of x = cond (odd x) (negsuc (x / 2)) (pos (suc (x / 2)))
