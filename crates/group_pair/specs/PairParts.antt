-- The first two of the three parts of a pair's clauses, the model's `pair_clauses`: the address comparison, and the gates with the data
-- bits; the third is the model's `agreed_reads`. Cited by `put_comparison` and `put_gated_data`.
use Rattle.std.specs.Prelude.{ℕ, List, [], ◌∷◌, ◌++◌}
use Rattle.model.specs.Gather.{gather}
use Rattle.model.specs.Clauses.{Clause, PairLiterals, address_bit_clauses, all_bits, forwarded_clauses}
use Rattle.group_pair_select.specs.SelectClauses.{pair_select_clauses}

-- the address bits, and the clause of all of them
unfoldable pub comparison_clauses : ℕ → PairLiterals → List Clause
comparison_clauses m x = gather m (address_bit_clauses x) ++ all_bits m x ∷ []

-- the gates, and the data bits
unfoldable pub gated_data_clauses : ℕ → PairLiterals → List Clause
gated_data_clauses n x = pair_select_clauses x ++ gather n (forwarded_clauses x)
