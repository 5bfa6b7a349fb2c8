-- `marrubigai::marrubigai_move` meets its contract: what `move_position` answers is said of the lent lists.
use Rattle.call_lists.specs.Lent.{net_lent}
use Rattle.call_position.specs.Moves.{move_of}
use Rattle.call_position.proofs.Moves.{move-stands}
use Rattle.calls.proofs.Lent.{net_of-lent}
use Rattle.std.proofs.Common.{length}
use Rattle.marrubigai.proofs.marrubigai_move.Goals as goal

pub returns-clause-answer : goal.returns-clause-answer
returns-clause-answer c =
    let same = net_of-lent c.args.net c.args.latches.now c.args.gates.now _ _ c.unpack_latches.ensures c.unpack_gates.ensures in
    rw same at c.move_position.ensures

pub returns-clause-stands : goal.returns-clause-stands
returns-clause-stands c =
    let same = net_of-lent c.args.net c.args.latches.now c.args.gates.now _ _ c.unpack_latches.ensures c.unpack_gates.ensures in
    let sent = rw same at c.move_position.ensures in
    rw sent
    (move-stands (net_lent c.args.net c.args.latches.now c.args.gates.now) (length c.args.latches.now) (length c.args.gates.now) c.args.position
    (move_of c.args.way))
