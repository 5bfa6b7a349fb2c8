-- The clauses of a step (RULES H4): those of the laws asked for, and the invariant. None of this is believed. Cited by what writes and checks them.
use Rattle.std.specs.Prelude.{ℕ, ◌+◌, ◌*◌, ◌/◌, ◌%◌, List, ◌++◌, ℤ, length, get_or}
use Rattle.model.specs.Netlist.{Netlist}
use Rattle.model.specs.Gather.{gather}
use Rattle.invariant_laws.specs.LawForms.{clause_of}
use Rattle.invariant_axioms.specs.Laws.{requested}

-- request x is three numbers: what is asked for, and two indices
unfoldable pub requested_clause : Netlist → List ℤ → List ℕ → ℕ → List ℤ
requested_clause c zs requests x =
    clause_of (get_or requests (3 * x) 0 % 2)
    (requested c zs (get_or requests (3 * x) 0) (get_or requests (3 * x + 1) 0) (get_or requests (3 * x + 2) 0))

unfoldable pub step_formula : Netlist → List ℤ → List ℕ → List ℤ
step_formula c zs requests = gather (length requests / 3) (requested_clause c zs requests) ++ zs
