-- How many clauses and numbers a group has at most (RULES G35 and G36, line for line): as many as there would be if nothing were left
-- out. Cited by the claim and by what needs room for a group.
use Rattle.std.specs.Prelude.{ℕ, zero, suc, ◌+◌, ◌*◌}
use Rattle.model.specs.Netlist.{Netlist, Start, given, unknown, start}
use Rattle.model.specs.declared.Group.{Group}
use Rattle.model.specs.declared.Group.TheVariants.{Wires, Pair, Closing, Property}

-- what only a given initial word has, and what only an unknown start has
unfoldable pub where_given : Start → ℕ → ℕ
where_given (given word) x = x
where_given unknown x = 0

unfoldable pub where_unknown : Start → ℕ → ℕ
where_unknown (given word) x = 0
where_unknown unknown x = x

unfoldable pub clause_count : Netlist → ℕ → Group → ℕ
clause_count c k (Wires zero) = 1 + c.latches + 3 * c.gates
clause_count c k (Wires (suc i)) = 2 * c.latches + 3 * c.gates
clause_count c k (Pair j i p) = 4 * c.m + 2 * c.n + 10 + where_unknown (start c) (2 * c.n)
clause_count c k (Closing zero p) = where_given (start c) (2 * c.n) + 1
clause_count c k (Closing (suc i) p) = where_given (start c) (2 * c.n) + 2 * c.n + 1
clause_count c k Property = 1

unfoldable pub number_count : Netlist → ℕ → Group → ℕ
number_count c k (Wires zero) = 2 + 2 * c.latches + 10 * c.gates
number_count c k (Wires (suc i)) = 6 * c.latches + 10 * c.gates
number_count c k (Pair j i p) = 17 * c.m + 8 * c.n + 32 + where_unknown (start c) (12 * c.n)
number_count c k (Closing zero p) = where_given (start c) (8 * c.n) + 3
number_count c k (Closing (suc i) p) = where_given (start c) (8 * c.n) + 8 * c.n + suc i + 3
number_count c k Property = k + 2
