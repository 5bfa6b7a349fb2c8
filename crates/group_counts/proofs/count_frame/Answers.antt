-- `group_counts::count_frame` meets its contract.

use borrow.Author.Rules.{rules}
use borrow.Author.Tests.{le-leb}
use Rattle.model.specs.Groups.{in_depth}
use Rattle.group_counts.proofs.count_frame.Goals as goal

pub count_group-wires-requires : goal.count_group-wires-requires
unfolding in_depth
count_group-wires-requires c = search (rules, le-leb)
