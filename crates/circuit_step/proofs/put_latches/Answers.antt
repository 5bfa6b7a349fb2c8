-- `circuit_step::put_latches` meets its contract. The loop's invariant: the first l latches are stepped.

use mathlib.Core.Path.{◌≡◌}
use native.Mathlib.Omega.{arith}
use lib.ListN.{length-set}
use Rattle.netlist.specs.NetOf.{net_of}
use Rattle.circuit_step.proofs.Held.{set_next}
use Rattle.circuit_step.proofs.put_latches.Goals as goal

pub loop-l-init : goal.loop-l-init
loop-l-init c = (c.requires.1, λ x h. absurd (omega arith))

pub bounds-latches-l : goal.bounds-latches-l
unfolding net_of
bounds-latches-l c = omega (arith, c.requires.0.sizes)

pub code_value-requires : goal.code_value-requires
unfolding net_of
code_value-requires c = omega (arith, c.requires.0.sizes, c.requires.0.codes.next_fits c.loop-l.l (omega arith))

pub bounds-state-l : goal.bounds-state-l
unfolding net_of
bounds-state-l c = omega (arith, c.requires.0.sizes)

pub loop-l-preserved : goal.loop-l-preserved
unfolding net_of
loop-l-preserved c = (
  simp length-set c.loop-l.invariant.0,
  set_next c.loop-l.state (omega (arith, c.requires.0.sizes)) c.loop-l.invariant.0 c.loop-l.invariant.1 c.code_value.ensures,
)

pub returns : goal.returns
unfolding net_of
returns c =
    let all : c.loop-l.l ≡ c.args.net.latches = omega arith in
    (c.loop-l.invariant.0, λ l h. c.loop-l.invariant.1 l (omega arith))
