-- `replay_run::run` meets its contract. The loop's invariant: what the first i frames have left (proofs/Through.antt).

use Rattle.netlist.specs.NetOf.{net_of}
use Rattle.replay_frame.specs.Replay.{said_in}
use Rattle.replay_run.proofs.Through.{Through}
use Rattle.replay_run.proofs.run.Given as goal

abbrev pub invariant-loop-i : goal.invariant-loop-i
invariant-loop-i l =
    Through (net_of l.net l.latches l.gates) (said_in l.signs) l.depth l.initial.memory l.initial.trace l.memory l.trace l.values l.inputs l.state l.touched l.held l.fault l.first l.at l.i
