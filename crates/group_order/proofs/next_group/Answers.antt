-- `group_order::next_group` meets its contract: nothing follows a group that is not in the order, and each arm answers the successor of
-- its kind.

use mathlib.Core.Path.{◌≡◌, refl, sym, ◌∙◌}
use borrow.Author.Tests.{eq-eqb, ne_eqb, lt-ltb, le-ltb}
use Rattle.std.specs.Prelude.{Option}
use Rattle.model.specs.declared.Group.{Group}
use Rattle.group_order.proofs.Successor.{successor, Follows, follows, none-follows}
use Rattle.group_order.proofs.next_group.Goals as goal
use Rattle.group_order.proofs.next_group.Goals.{Else-not-is_in_depth}

pub returns-then-not-is_in_depth : goal.returns-then-not-is_in_depth
returns-then-not-is_in_depth c = none-follows _ _ _ (sym c.is_in_depth.ensures ∙ c.if-not-is_in_depth.true)

-- the group is one of the depth: its successor follows
answer : (c : Else-not-is_in_depth) (g : Group) (r : Option Group) →
    c.args.group ≡ g → successor c.args.ports c.args.depth g ≡ r → Follows c.args.ports c.args.depth c.args.group r
answer c g r e h =
    follows _ _ c.requires _ g r (sym c.is_in_depth.ensures ∙ c.if-not-is_in_depth.false) e h

pub returns-then-i-eq0 : goal.returns-then-i-eq0
returns-then-i-eq0 c = answer (goal.at.returns-then-i-eq0 c).Else-not-is_in_depth _ _ c.in-Wires.is (rw (eq-eqb _ _ c.if-i-eq0.true))

pub returns-else-i-eq0 : goal.returns-else-i-eq0
returns-else-i-eq0 c = answer (goal.at.returns-else-i-eq0 c).Else-not-is_in_depth _ _ c.in-Wires.is (rw (ne_eqb _ _ c.if-i-eq0.false))

pub returns-then-port-ports : goal.returns-then-port-ports
returns-then-port-ports c = answer (goal.at.returns-then-port-ports c).Else-not-is_in_depth _ _ c.in-Pair.is (rw (lt-ltb _ _ c.if-port-ports.true))

pub returns-then-j-eq0 : goal.returns-then-j-eq0
returns-then-j-eq0 c =
    answer (goal.at.returns-then-j-eq0 c).Else-not-is_in_depth _ _ c.in-Pair.is
    (rw (le-ltb _ _ c.if-port-ports.false, eq-eqb _ _ c.if-j-eq0.true))

pub returns-else-j-eq0 : goal.returns-else-j-eq0
returns-else-j-eq0 c =
    answer (goal.at.returns-else-j-eq0 c).Else-not-is_in_depth _ _ c.in-Pair.is
    (rw (le-ltb _ _ c.if-port-ports.false, ne_eqb _ _ c.if-j-eq0.false))

pub returns-then-port-ports-2 : goal.returns-then-port-ports-2
returns-then-port-ports-2 c = answer (goal.at.returns-then-port-ports-2 c).Else-not-is_in_depth _ _ c.in-Closing.is (rw (lt-ltb _ _ c.if-port-ports-2.true))

pub returns-then-i-depth : goal.returns-then-i-depth
returns-then-i-depth c =
    answer (goal.at.returns-then-i-depth c).Else-not-is_in_depth _ _ c.in-Closing.is
    (rw (le-ltb _ _ c.if-port-ports-2.false, lt-ltb _ _ c.if-i-depth.true))

pub returns-else-i-depth : goal.returns-else-i-depth
returns-else-i-depth c =
    answer (goal.at.returns-else-i-depth c).Else-not-is_in_depth _ _ c.in-Closing.is
    (rw (le-ltb _ _ c.if-port-ports-2.false, le-ltb _ _ c.if-i-depth.false))

pub returns-in-Property : goal.returns-in-Property
returns-in-Property c = answer (goal.at.returns-in-Property c).Else-not-is_in_depth _ _ c.in-Property.is refl
