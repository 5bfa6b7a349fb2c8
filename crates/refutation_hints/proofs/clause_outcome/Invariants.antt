-- `refutation_hints::clause_outcome` meets its contract. The outcome of what was passed, joined with that of what is left, is that of the clause.

use Prim.Native.Nat.{ℕ, ◌/◌}
use mathlib.Core.Path.{◌≡◌}
use mathlib.Core.List.{List}
use lib.IntN.{ℤ}
use lib.ListN.{length, drop}
use Rattle.model.specs.Numbers.{clauses_in}
use Rattle.refutation_hints.specs.Propagation.{first_outcome}
use Rattle.refutation_hints.specs.Marks.{false_in, code_of, joined_code}
use Rattle.refutation_hints.proofs.clause_outcome.Given as goal

-- the code of the first clause's outcome
abbrev pub code_in : List ℕ → ℕ → List ℤ → ℕ
code_in marks turn zs = code_of (first_outcome (length marks / 2) (false_in marks turn) (clauses_in zs))

abbrev pub invariant-loop-i : goal.invariant-loop-i
invariant-loop-i l =
    joined_code l.outcome (code_in l.marks l.turn (drop l.i l.known)) ≡ code_in l.marks l.turn (drop l.place l.known)
