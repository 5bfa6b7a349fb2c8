-- `group_counts::count_pairs` meets its contract: frame 0 has no pair.

use native.Mathlib.Omega.{arith}
use Rattle.group_counts.specs.PairCounts.{pair_counts}
use borrow.Author.Rules.{rules}
use Rattle.group_counts.proofs.count_pairs.Goals as goal

pub returns-then-depth-eq0 : goal.returns-then-depth-eq0
unfolding pair_counts
returns-then-depth-eq0 c = record { value = (rw c.if-depth-eq0.true, omega arith); scratch = search rules }
