-- `group_counts::count_some_pairs` meets its contract: four classes of pairs.

use Rattle.group_counts.proofs.Counted.{some-counted}
use borrow.Author.Rules.{rules}
use Rattle.group_counts.proofs.count_some_pairs.Goals as goal

pub returns-clause-value : goal.returns-clause-value
returns-clause-value c =
    let p = c.requires in
    let first = c.product-2.ensures in
    let second = c.product.ensures in (
      rw (first.0, second.0, c.other_pairs.ensures.0)
          (some-counted _ c.args.depth _ _ _ p.1 c.count_pair-first.ensures.value.0 c.count_later_pairs-later.ensures.value.0 c.count_pair-far.ensures.value.0),
      search rules,
    )
