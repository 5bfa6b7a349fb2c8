-- `netlist_scan::any_in_second` meets its contract: it is the definition's conjunction.

use Prim.Native.Nat.{◌≤◌}
use lib.ListN.{length}
use native.Mathlib.Omega.{arith}
use borrow.Author.Tests.{lt-ltb, le-ltb}
use Rattle.netlist.specs.NetOf.{net_of}
use Rattle.netlist_scan.specs.AnyLine.{any_in_second}
use Rattle.netlist_scan.proofs.AnyLine.{front}
use Rattle.netlist_scan.proofs.any_in_second.Goals as goal

pub shared_ref_as_front-any_above : goal.shared_ref_as_front-any_above
unfolding net_of
shared_ref_as_front-any_above c = omega (arith, c.requires)

pub returns-then-net-gt0 : goal.returns-then-net-gt0
unfolding net_of any_in_second
returns-then-net-gt0 c =
    let fits : c.args.net.m ≤ length c.args.net.address2 = omega (arith, c.requires) in
    rw (lt-ltb _ _ c.if-net-gt0.true, c.any_above.ensures, front _ _ _ fits, c.is_above.ensures)

pub returns : goal.returns
unfolding net_of any_in_second
returns c = rw (le-ltb _ _ c.if-net-gt0.false)
