-- How the code keeps which numbers are false: two marks for each variable hold the turn in which its number and the opposite became
-- false, so that a new turn begins with none; and an outcome as one number. Cited by the functions of this crate, and by no public contract.
use Rattle.std.specs.Prelude.{ℕ, suc, ◌+◌, ◌*◌, ◌≤◌, ◌<◌, Bool, cond, List, eqb, ℤ, pos, negsuc, get_or}
use Rattle.refutation_hints.specs.Propagation.{Outcome, conflict, unit, undecided}

-- where the mark of a number is: those of a variable and of its opposite stand side by side
abbrev pub slot_of : ℤ → ℕ
slot_of (pos v) = 2 * v
slot_of (negsuc v) = 2 * suc v + 1

-- the numbers that became false in a turn
abbrev pub false_in : List ℕ → ℕ → ℤ → Bool
false_in marks turn z = eqb (get_or marks (slot_of z) 0) turn

-- no mark is of a later turn; none is of this turn
abbrev pub UpTo : ℕ → List ℕ → Type 0
UpTo turn marks = (s : ℕ) → get_or marks s 0 ≤ turn

abbrev pub Before : ℕ → List ℕ → Type 0
Before turn marks = (s : ℕ) → get_or marks s 0 < turn

-- an outcome as a number: 0, 1, or the slot of the unit
abbrev pub code_of : Outcome → ℕ
code_of conflict = 0
code_of undecided = 1
code_of (unit z) = slot_of z

-- the code of a clause's outcome from those of two parts: a conflict leaves the other part's, and units have to be the same
unfoldable pub joined_code : ℕ → ℕ → ℕ
joined_code a b = cond (eqb a 0) b (cond (eqb b 0) a (cond (eqb a b) a 1))
