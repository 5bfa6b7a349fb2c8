-- `group_order::first_group` meets its contract.

use mathlib.Core.Path.{sym}
use Rattle.group_order.proofs.Successor.{order-first}
use Rattle.group_order.proofs.first_group.Goals as goal

pub returns : goal.returns
returns c = λ ports. sym (order-first ports c.args.depth)
