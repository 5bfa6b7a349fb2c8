-- Clauses as DIMACS numbers (RULES W4, G28 and G29, each clause ended by 0: G17), and back; what an assignment makes true
-- (RULES A2 to A4). Cited by every group call and by the claim.
use Rattle.std.specs.Prelude.{ℕ, zero, suc, Bool, true, false, cond, not, ◌&&◌, ◌||◌, List, [], ◌∷◌, ◌++◌, ℤ, pos, negsuc, neg_ℤ, length}
use Rattle.model.specs.Netlist.{Netlist, ports}
use Rattle.model.specs.Clauses.{Literal, known, plus, minus, Clause}
use Rattle.model.specs.Groups.{clauses_of, group_order}
use Rattle.model.specs.declared.Group.{Group}

-- a literal as one number: a variable, negative where it is negated; variable 1 is true, so 1 and -1 are the constants (RULES V7)
abbrev pub literal_number : Literal → ℤ
literal_number (known true) = pos 1
literal_number (known false) = negsuc 0
literal_number (plus v) = pos v
literal_number (minus v) = neg_ℤ (pos v)

-- what is written of a literal: its number; of a constant nothing
unfoldable pub kept_of : Literal → List ℤ
kept_of (known b) = []
kept_of (plus v) = literal_number (plus v) ∷ []
kept_of (minus v) = literal_number (minus v) ∷ []

-- what is written of a clause's literals
unfoldable pub kept : Clause → List ℤ
kept [] = []
kept (l ∷ x) = kept_of l ++ kept x

-- whether one of a clause's literals is the constant true
unfoldable pub is_true : Literal → Bool
is_true (known b) = b
is_true (plus v) = false
is_true (minus v) = false

unfoldable pub has_true : Clause → Bool
has_true [] = false
has_true (l ∷ x) = is_true l || has_true x

-- the end of a clause of which so many numbers are written: of one that is left empty, the single -1 stands before the end mark
unfoldable pub end_of : ℕ → List ℤ
end_of zero = negsuc 0 ∷ pos 0 ∷ []
end_of (suc n) = pos 0 ∷ []

-- a clause as it is written: not at all where it has a true literal, else without its false ones
unfoldable pub written_clause : Clause → List ℤ
written_clause x = cond (has_true x) [] (kept x ++ end_of (length (kept x)))

unfoldable pub written : List Clause → List ℤ
written [] = []
written (x ∷ xs) = written_clause x ++ written xs

unfoldable pub numbers_of : Netlist → ℕ → Group → List ℤ
numbers_of c k g = written (clauses_of c k g)

-- the numbers of several groups, joined
unfoldable pub joined : (Group → List ℤ) → List Group → List ℤ
joined f [] = []
joined f (g ∷ gs) = f g ++ joined f gs

-- all numbers written for depth k (RULES A2)
unfoldable pub formula : Netlist → ℕ → List ℤ
formula c k = joined (numbers_of c k) (group_order (ports c) k)

-- the clauses in a list of numbers: each 0 ends one. `begun` is what stands since the 0 before
unfoldable pub split_after : List ℤ → List ℤ → List (List ℤ)
split_after begun [] = []
split_after begun (pos zero ∷ zs) = begun ∷ split_after [] zs
split_after begun (pos (suc v) ∷ zs) = split_after (begun ++ pos (suc v) ∷ []) zs
split_after begun (negsuc v ∷ zs) = split_after (begun ++ negsuc v ∷ []) zs

unfoldable pub clauses_in : List ℤ → List (List ℤ)
clauses_in zs = split_after [] zs

-- a value for each variable (RULES A3)
abbrev pub Assignment : Type 0
Assignment = ℕ → Bool

-- the number v is true if variable v is, -v if it is not (RULES A4)
unfoldable pub number_true : Assignment → ℤ → Bool
number_true a (pos v) = a v
number_true a (negsuc v) = not (a (suc v))

-- a clause is true if at least one of its numbers is
unfoldable pub clause_true : Assignment → List ℤ → Bool
clause_true a [] = false
clause_true a (z ∷ zs) = number_true a z || clause_true a zs

unfoldable pub all_true : Assignment → List (List ℤ) → Bool
all_true a [] = true
all_true a (x ∷ xs) = clause_true a x && all_true a xs
