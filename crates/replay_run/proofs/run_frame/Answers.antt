-- `replay_run::run_frame` meets its contract: the table that is stepped is the one that is written and judged.

use mathlib.Core.List.{[]}
use Rattle.model.specs.Variables.{base}
use Rattle.netlist.specs.NetOf.{net_of}
use Rattle.netlist.proofs.NetOf.{sizes-lists, limits-alone}
use Rattle.replay_frame.specs.Replay.{said_in, fed_unclear, frame_line}
use Rattle.replay_run.proofs.Runs.{shown_by, line-by}
use Rattle.replay_run.proofs.run_frame.Goals as goal

pub put_line-requires : goal.put_line-requires
put_line-requires c =
    (sizes-lists c.args.net c.args.latches.now c.args.gates.now [] [] c.requires.0.accepted.limits.sizes, c.requires.1)

pub judge_frame-shown-requires : goal.judge_frame-shown-requires
judge_frame-shown-requires c =
    (limits-alone c.args.net c.args.latches.now c.args.gates.now c.requires.0.accepted.limits, c.requires.0.depth)

pub returns : goal.returns
unfolding net_of frame_line fed_unclear base
returns c =
    let d = net_of c.args.net c.args.latches.now c.args.gates.now in
    let y = said_in c.args.signs.now in
    let stepped = c.step_fed-stepped.ensures in record {
      done = stepped.done;
      line = line-by c.requires.0.accepted.limits y c.args.i stepped.done.values-are c.put_line.ensures;
      judged = shown_by c.requires.0.accepted.limits y c.args.i stepped.done.values-are stepped.filled (record { fault-is = c.judge_frame-shown.ensures.fault-is; broken-is = c.judge_frame-shown.ensures.broken-is });
    }
