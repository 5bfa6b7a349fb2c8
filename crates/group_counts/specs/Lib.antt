-- How many clauses the pairs of a depth have, by classes of pairs. Nothing here imports a law or a proof.
pub mod PairCounts
