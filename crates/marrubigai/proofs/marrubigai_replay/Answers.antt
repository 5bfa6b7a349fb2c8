-- `marrubigai::marrubigai_replay` meets its contract: what `replay` answers and leaves is said of the lent lists.
use Rattle.answer_lines.proofs.Written.{as_written}
use Rattle.calls.proofs.Lent.{net_of-lent}
use Rattle.replay_call.proofs.RightAnswer.{right_answer}
use Rattle.replay_call.proofs.Settled.{faults-settled}
use Rattle.replay_frame.proofs.OneRun.{one-run, room-enough}
use Rattle.marrubigai.proofs.marrubigai_replay.Goals as goal

pub returns-clause-answer : goal.returns-clause-answer
returns-clause-answer c =
    let same = net_of-lent c.args.net c.args.latches.now c.args.gates.now _ _ c.unpack_latches.ensures c.unpack_gates.ensures in
    rw same at c.replay.ensures.answer

pub returns-clause-memory : goal.returns-clause-memory
returns-clause-memory c =
    let same = net_of-lent c.args.net c.args.latches.now c.args.gates.now _ _ c.unpack_latches.ensures c.unpack_gates.ensures in
    rw same at c.replay.ensures.memory

pub returns-clause-trace : goal.returns-clause-trace
returns-clause-trace c =
    let same = net_of-lent c.args.net c.args.latches.now c.args.gates.now _ _ c.unpack_latches.ensures c.unpack_gates.ensures in
    rw same at c.replay.ensures.trace

pub returns-clause-settled : goal.returns-clause-settled
returns-clause-settled c = (faults-settled, one-run, room-enough, right_answer)

pub returns-clause-written : goal.returns-clause-written
returns-clause-written c = as_written
