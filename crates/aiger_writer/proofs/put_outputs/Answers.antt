-- `aiger_writer::put_outputs` meets its contract. The loop has written the lines of the outputs before o.

use Prim.Native.Nat.{◌+◌, ◌≤◌}
use mathlib.Core.Path.{refl}
use native.Mathlib.Numerals.{add-one}
use native.Mathlib.Omega.{arith}
use lib.ListN.{length}
use Rattle.model.specs.Gather.{gather}
use Rattle.model.proofs.Wrote.{wrote_then}
use Rattle.netlist.specs.NetOf.{net_of, alone}
use Rattle.aiger_writer.specs.Parts.{output_text}
use Rattle.aiger_writer.proofs.put_outputs.Goals as goal
use Rattle.aiger_writer.proofs.put_outputs.Goals.{In-loop-o}

pub overflow_add-count : goal.overflow_add-count
unfolding net_of
overflow_add-count c = let fits = c.requires.1 in omega (arith, fits.m-most, fits.n-most)

pub overflow_add-count-2 : goal.overflow_add-count-2
unfolding net_of
overflow_add-count-2 c = let fits = c.requires.1 in omega (arith, fits.m-most, fits.n-most)

pub loop-o-init : goal.loop-o-init
unfolding gather
loop-o-init c = (omega arith, record { counted = refl; leaves = refl })

-- there is room for one more
room : (c : In-loop-o) → c.loop-o.at + 5 ≤ length c.loop-o.out
room c =
    omega (arith, c.loop-o.invariant.0, c.requires.3)

pub loop-o-preserved : goal.loop-o-preserved
unfolding gather
loop-o-preserved c =
    let text = output_text c.args.order (alone c.args.net) in (
      omega (arith, c.loop-o.invariant.0, c.put_output-at.ensures.1),
      rw add-one
          (wrote_then (gather c.loop-o.o text) (text c.loop-o.o) c.args.out.now c.loop-o.out c.put_output-at.new.out c.loop-o.at c.put_output-at.result c.loop-o.invariant.1 c.put_output-at.ensures.0),
    )
