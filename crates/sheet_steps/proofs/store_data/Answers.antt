-- `sheet_steps::store_data` meets its contract: one entry of the array is set.

use mathlib.Core.Path.{refl}
use Prim.Native.Nat.{◌<◌}
use native.Mathlib.Omega.{arith}
use lib.ListN.{length, length-set}
use Rattle.netlist.specs.NetOf.{net_of}
use Rattle.sheet_steps.specs.Steps.{stored}
use Rattle.sheet_steps.proofs.Steps.{code-set}
use Rattle.sheet_steps.proofs.Lists.{full-kept}
use Rattle.sheet_steps.proofs.store_data.Goals as goal

pub returns : goal.returns
unfolding net_of stored
returns c latches gates full =
    let b : c.args.t < length c.args.net.write_data = omega (arith, full.data-codes, c.requires) in
    record {
      full = full-kept full refl (simp length-set) refl;
      net-is = rw (code-set c.args.net.write_data c.args.t c.args.first b);
    }
