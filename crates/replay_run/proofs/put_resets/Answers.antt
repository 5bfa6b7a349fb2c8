-- `replay_run::put_resets` meets its contract. The loop's invariant: the first l latches are at their reset.

use mathlib.Core.Path.{◌≡◌, refl}
use native.Mathlib.Omega.{arith}
use lib.ListN.{length-set}
use Rattle.netlist.specs.NetOf.{net_of}
use Rattle.circuit_step.proofs.Held.{set_next}
use Rattle.replay_run.proofs.put_resets.Goals as goal

pub loop-l-init : goal.loop-l-init
loop-l-init c =
    (c.requires.1, λ x h. absurd (omega arith))

pub bounds-latches-l : goal.bounds-latches-l
unfolding net_of
bounds-latches-l c =
    omega (arith, c.requires.0)

pub bounds-state-l : goal.bounds-state-l
unfolding net_of
bounds-state-l c =
    omega (arith, c.requires.0)

pub loop-l-preserved : goal.loop-l-preserved
unfolding net_of
loop-l-preserved c = (
  simp length-set c.loop-l.invariant.0,
  set_next c.loop-l.state (omega (arith, c.requires.0)) c.loop-l.invariant.0 c.loop-l.invariant.1 refl,
)

pub returns : goal.returns
unfolding net_of
returns c =
    let all : c.loop-l.l ≡ c.args.net.latches = omega arith in
    (c.loop-l.invariant.0, λ l h. c.loop-l.invariant.1 l (omega arith))
