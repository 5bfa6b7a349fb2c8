-- `netlist_scan::any_in_record` meets its contract: it is the definition's disjunction, array by array.

use Prim.Native.Nat.{◌≤◌}
use lib.ListN.{length}
use native.Mathlib.Omega.{arith}
use Rattle.netlist.specs.NetOf.{net_of}
use Rattle.netlist_scan.specs.AnyLine.{any_in_record}
use Rattle.netlist_scan.proofs.AnyLine.{front}
use Rattle.netlist_scan.proofs.any_in_record.Goals as goal

pub shared_ref_as_front-any_above : goal.shared_ref_as_front-any_above
unfolding net_of
shared_ref_as_front-any_above c = omega (arith, c.requires)

pub shared_ref_as_front-any_above-2 : goal.shared_ref_as_front-any_above-2
unfolding net_of
shared_ref_as_front-any_above-2 c = omega (arith, c.requires)

pub returns : goal.returns
unfolding net_of any_in_record
returns c =
    let address-fits : c.args.net.m ≤ length c.args.net.address = omega (arith, c.requires) in
    let data-fits : c.args.net.n ≤ length c.args.net.write_data = omega (arith, c.requires) in
    rw (
      c.any_above.ensures,
      front _ _ _ address-fits,
      c.any_above-2.ensures,
      front _ _ _ data-fits,
      c.any_in_second.ensures,
      c.is_above.ensures,
      c.is_above-2.ensures,
      c.is_above-3.ensures,
    )
