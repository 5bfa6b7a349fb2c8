-- `sheet_steps::store_second_address` meets its contract: one entry of the array is set.

use mathlib.Core.Path.{refl}
use Prim.Native.Nat.{◌<◌}
use native.Mathlib.Omega.{arith}
use lib.ListN.{length, length-set}
use Rattle.netlist.specs.NetOf.{net_of}
use Rattle.sheet_steps.specs.Steps.{stored}
use Rattle.sheet_steps.proofs.Steps.{code-set}
use Rattle.sheet_steps.proofs.Lists.{full-kept}
use Rattle.sheet_steps.proofs.store_second_address.Goals as goal

pub returns : goal.returns
unfolding net_of stored
returns c latches gates full =
    let b : c.args.t < length c.args.net.address2 = omega (arith, full.second-codes, c.requires) in
    record {
      full = full-kept full refl refl (simp length-set);
      net-is = rw (code-set c.args.net.address2 c.args.t c.args.first b);
    }
