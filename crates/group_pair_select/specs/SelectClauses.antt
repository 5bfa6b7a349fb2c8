-- The three gates of a pair, the part of the model's `pair_clauses` between the address and the data clauses. RULES G8: "s = E ∧ WE of
-- frame j; PS = ¬s ∧ N; S = s ∧ N". Cited by `put_select_gates`, `put_select` and
-- group_pair/specs/PairParts.
use Rattle.std.specs.Prelude.{List, ◌++◌}
use Rattle.model.specs.Clauses.{Literal, Clause, neg, and_clauses, PairLiterals}

-- By the paper's letters: s is the valid read, E the address comparison, WE the write enable of frame j; PS says that frame i reads
-- and no frame since j has written what it reads, N the same of the frames after j; S is the exclusive valid read, frame j selected.
unfoldable pub select_clauses : Literal → Literal → Literal → Literal → Literal → Literal → List Clause
select_clauses s E WE PS S N = and_clauses s E WE ++ and_clauses PS (neg s) N ++ and_clauses S s N

-- of a pair's literals
unfoldable pub pair_select_clauses : PairLiterals → List Clause
pair_select_clauses x = select_clauses x.s x.E x.WE x.PS x.S x.N
