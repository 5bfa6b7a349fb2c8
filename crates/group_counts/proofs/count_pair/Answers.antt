-- `group_counts::count_pair` meets its contract: the pair at each port.

use native.Mathlib.Omega.{arith}
use borrow.Author.Rules.{rules}
use Rattle.model.specs.declared.Group.TheVariants.{Pair}
use Rattle.model.proofs.Joined.{pair-in_depth}
use Rattle.group_counts.proofs.Counted.{second-there, count-first, count-both}
use Rattle.group_counts.proofs.count_pair.Goals as goal

pub count_group-first-requires : goal.count_group-first-requires
count_group-first-requires c =
    let p = c.requires in
    (p.0, omega arith, (pair-in_depth _ 255 _ _ 1).1 (p.2, p.1, (omega arith, omega arith)), search rules)

pub returns-then-net-eq0-clause-value : goal.returns-then-net-eq0-clause-value
returns-then-net-eq0-clause-value c =
    let first = c.count_group-first.ensures in
    (count-first _ _ _ (Pair c.args.j c.args.i) _ c.if-net-eq0.true first.value.0, omega (arith, first.value.1))

pub count_group-requires : goal.count_group-requires
count_group-requires c =
    let p = c.requires in
    (p.0, omega arith, (pair-in_depth _ 255 _ _ 2).1 (p.2, p.1, second-there _ _ _ c.if-net-eq0.false), search rules)

pub returns-clause-value : goal.returns-clause-value
returns-clause-value c =
    let first = c.count_group-first.ensures in
    let second = c.count_group.ensures in
    (count-both _ _ _ (Pair c.args.j c.args.i) _ _ c.if-net-eq0.false first.value.0 second.value.0, omega (arith, first.value.1, second.value.1))
