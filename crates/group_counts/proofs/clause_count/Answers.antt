-- `group_counts::clause_count` meets its contract: one group of each class is counted.

use Rattle.model.specs.Groups.{in_depth}
use Rattle.group_counts.proofs.Counted.{counted}
use borrow.Author.Rules.{rules}
use Rattle.group_counts.proofs.clause_count.Goals as goal

pub count_group-property-requires : goal.count_group-property-requires
unfolding in_depth
count_group-property-requires c = search rules

pub returns : goal.returns
returns c =
    rw c.product.ensures.0
    (counted c.requires.0 c.args.depth _ _ _ _ c.count_frame-first.ensures.value.0 c.count_frame-later.ensures.value.0
    c.count_pairs-pairs.ensures.value.0 c.count_group-property.ensures.value.0)
