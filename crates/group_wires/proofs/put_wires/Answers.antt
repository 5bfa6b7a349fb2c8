-- `group_wires::put_wires` meets its contract: frame 0, or a later one.

use Prim.Native.Nat.{◌+◌, ◌-◌}
use mathlib.Core.Path.{◌≡◌}
use native.Mathlib.Omega.{arith}
use borrow.Author.Rules.{rules}
use borrow.Author.Tests.{ne_eqb}
use Rattle.group_wires.proofs.WiresOf.{frame-again, room-first, room-later}
use Rattle.group_wires.proofs.put_wires.Goals as goal

pub put_first_wires-requires : goal.put_first_wires-requires
put_first_wires-requires c = search (rules, room-first)

pub returns-then-i-eq0 : goal.returns-then-i-eq0
returns-then-i-eq0 c = rw c.if-i-eq0.true c.put_first_wires.ensures

pub put_later_wires-requires : goal.put_later_wires-requires
put_later_wires-requires c = search (rules, frame-again, room-later)

pub returns : goal.returns
returns c =
    let later = c.if-i-eq0.false in
    let again : c.args.i - 1 + 1 ≡ c.args.i = omega (arith, later) in
    rw (ne_eqb _ 0 later) (rw again at c.put_later_wires.ensures)
